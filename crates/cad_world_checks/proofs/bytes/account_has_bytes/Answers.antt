use Rattle.std.proofs.Common.{Bool, IsTrue, List, map, ap, subst}
use Rattle.std.specs.Prelude.{◌↔◌}
use Rattle.std.specs.List.{AllByRecursion}
use Rattle.cad_fits.proofs.Each.{not_so, is_so}
use Rattle.cad_codec.specs.Forms.{HasBytes}
use Rattle.cad_rows.specs.Views.{pure_row}
use Rattle.cad_state.specs.Views.{account_of, controller_of, publication_of}
use Rattle.cad_world.specs.Registers.{row_values}
use Rattle.cad_world.specs.Rows.{Row}
use Rattle.cad_world.specs.State.{Controller, Publication}
use Rattle.cad_worlds.specs.Standing.{AccountHasBytes}
use Rattle.cad_world_checks.proofs.ReadBack.{account_so, not_stored, not_lent}
use Rattle.cad_world_checks.proofs.Soundness.{passed}
use Rattle.cad_world_checks.specs.Checks.{LentHasBytes, BorrowedHasBytes}
use Rattle.cad_world_checks.proofs.bytes.account_has_bytes.Goals as goal

pub returns-then-not-stored : goal.returns-then-not-stored
returns-then-not-stored c =
    let tells = subst (λ (r : Row). IsTrue c.in_ok-stored.stored ↔ AllByRecursion HasBytes (row_values r)) (ap pure_row c.as_slice-places.ensures.value) c.in_ok-stored.ensures in
    not_stored (account_of c.args.account.now) (not_so c.in_ok-stored.stored tells c.if-not-stored.true)

pub returns-then-not-lent : goal.returns-then-not-lent
returns-then-not-lent c =
    let tells = subst (λ (ps : List Publication). IsTrue c.in_ok-lent.lent ↔ AllByRecursion LentHasBytes ps) (ap (map publication_of) c.as_slice-published.ensures.value) c.in_ok-lent.ensures in
    not_lent (account_of c.args.account.now) (not_so c.in_ok-lent.lent tells c.if-not-lent.true)

pub returns : goal.returns
returns c =
    let a = account_of c.args.account.now in
    let stored = subst (λ (r : Row). IsTrue c.in_ok-stored.stored ↔ AllByRecursion HasBytes (row_values r)) (ap pure_row c.as_slice-places.ensures.value) c.in_ok-stored.ensures in
    let lent = subst (λ (ps : List Publication). IsTrue c.in_ok-lent.lent ↔ AllByRecursion LentHasBytes ps) (ap (map publication_of) c.as_slice-published.ensures.value) c.in_ok-lent.ensures in
    passed (λ (b : Bool). IsTrue b ↔ AllByRecursion BorrowedHasBytes (map controller_of c.as_slice-controllers.result.now)) (λ (b : Bool). IsTrue b ↔ AccountHasBytes a) c.controllers_have_bytes.result
    (λ b tells. account_so b a (is_so c.in_ok-stored.stored stored c.if-not-stored.false) (is_so c.in_ok-lent.lent lent c.if-not-lent.false)
    (subst (λ (cs : List Controller). IsTrue b ↔ AllByRecursion BorrowedHasBytes cs) (ap (map controller_of) c.as_slice-controllers.ensures.value) tells))
    c.controllers_have_bytes.ensures
