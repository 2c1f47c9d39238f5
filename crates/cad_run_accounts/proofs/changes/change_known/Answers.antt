use Rattle.std.proofs.Common.{◌≡◌, ap, ◌∙◌, Some, refl, sym}
use Rattle.cad_state.specs.Ways.{place_in}
use Rattle.cad_run_accounts.specs.Code.Changing.{changed_by, left_by}
use Rattle.cad_run_accounts.proofs.Found.{known_changed, known_left, known_nowhere, no_known, nothing_left}
use Rattle.cad_run_accounts.proofs.changes.change_known.Goals as goal

pub returns-in-Some-known_place-clause-all : goal.returns-in-Some-known_place-clause-all
returns-in-Some-known_place-clause-all c =
    let ks = c.args.known.now.items in
    let i = c.in-Some.i in
    let old = c.index_mut.result.now in
    let at : place_in ks i ≡ Some c.in-Some-known_place.n = ap (λ xs. place_in xs i) (sym c.as_slice.ensures.value) ∙ sym c.in-Some-known_place.ensures.value in
    known_changed c.change_account.result ks c.args.count c.args.address.0 i c.in-Some-known_place.n (changed_by c.args.change) old (record old { account = c.change_account.new.account })
    c.in-Some.ensures.0 c.in-Some.ensures.1 at c.index_mut.ensures.value refl c.change_account.ensures.account

pub returns-in-Some-known_place-clause-left : goal.returns-in-Some-known_place-clause-left
returns-in-Some-known_place-clause-left c =
    let ks = c.args.known.now.items in
    let i = c.in-Some.i in
    let old = c.index_mut.result.now in
    let at : place_in ks i ≡ Some c.in-Some-known_place.n = ap (λ xs. place_in xs i) (sym c.as_slice.ensures.value) ∙ sym c.in-Some-known_place.ensures.value in
    known_left c.change_account.result c.args.change ks c.args.count c.args.address.0 i c.in-Some-known_place.n old c.in-Some.ensures.0 c.in-Some.ensures.1 at c.index_mut.ensures.value c.change_account.ensures.left

pub returns-in-None-clause-all : goal.returns-in-None-clause-all
returns-in-None-clause-all c = known_nowhere c.args.known.now.items c.args.count c.args.address.0 (changed_by c.args.change) c.in-None.ensures

pub returns-in-None-clause-left : goal.returns-in-None-clause-left
returns-in-None-clause-left c = λ w. nothing_left c.args.change ∙ ap (left_by c.args.change) (no_known c.args.known.now.items c.args.count c.args.address.0 c.in-None.ensures w)
