use Rattle.std.proofs.Common.{◌≡◌, Some, None, ap, arith, refl, sym, ◌∙◌}
use Rattle.std.proofs.lemmas.Option.{slice_get_read}
use Rattle.std.specs.Vec.{with_item}
use Rattle.cad_rows.specs.Exchanges.{exchanged}
use Rattle.cad_rows.specs.Views.{pure_row, pure_shape}
use Rattle.cad_state.proofs.Holding.{all_there, all_nowhere, all_set, all_written, part_there, part_nowhere, part_set, part_written, place_code}
use Rattle.cad_state.specs.Views.{account_of}
use Rattle.cad_state.specs.Ways.{in_stored, place_in}
use Rattle.cad_state.specs.declared.state.Accounts.TheVariants as v
use Rattle.cad_nodes.proofs.Written.{stored_written, stored_swapped, stored_missed}
use Rattle.cad_nodes.proofs.exchange.swap_in_stored.Goals as goal

pub returns-then-i-len : goal.returns-then-i-len
returns-then-i-len c =
    let i = c.args.i in
    let x = c.args.state.now in
    let all = c.in-All.all in
    let old = c.index_mut.result.now in
    let one = record old { stored = c.swap_node.new.row } in
    let new = with_item all i one in
    let g = exchanged c.args.down.now (pure_shape c.args.node.now.shape) (pure_row c.args.node.now.parts.items) in
    stored_swapped i c.args.down.now x (v.All new) old one c.args.node.now _
    (all_there x.accounts all i old c.in-All.is (slice_get_read all.items c.len.result i old (omega (arith, c.len.ensures, all.ok.0)) c.if-i-len.true c.index_mut.ensures.value))
    (all_set all new i one refl (omega (arith, c.len.ensures, c.if-i-len.true, all.ok.0)))
    (λ w. all_written w x.accounts all new i (in_stored g) c.in-All.is
    (stored_written (in_stored g) all.items i old one (omega (arith, c.len.ensures, c.if-i-len.true, all.ok.0)) c.index_mut.ensures.value
    (ap (λ r. record (account_of old) { stored = r }) c.swap_node.ensures.row)))
    c.swap_node.ensures.shape c.swap_node.ensures.parts

pub returns-else-i-len : goal.returns-else-i-len
returns-else-i-len c =
    let all = c.in-All.all in
    stored_missed c.args.i c.args.down.now c.args.state.now (v.All all) c.args.node.now c.in-All.is
    (all_nowhere c.args.state.now.accounts all c.args.i c.in-All.is (omega (arith, c.len.ensures, c.if-i-len.false, all.ok.0)))

pub returns-in-Some : goal.returns-in-Some
returns-in-Some c =
    let i = c.args.i in
    let x = c.args.state.now in
    let count = c.in-Part.count in
    let all = c.in-Part.known in
    let n = c.in-Some.n in
    let old = c.index_mut-in-Some.result.now in
    let one = record old { account = record old.account { stored = c.swap_node-in-Some.new.row } } in
    let new = with_item all n one in
    let g = exchanged c.args.down.now (pure_shape c.args.node.now.shape) (pure_row c.args.node.now.parts.items) in
    let at : place_in all.items i ≡ Some n = ap (λ ks. place_in ks i) (sym c.as_slice.ensures.value) ∙ sym c.in-Some.ensures.value in
    let found = place_code all.items i n old at c.index_mut-in-Some.ensures.value in
    stored_swapped i c.args.down.now x (v.Part count new) old.account one.account c.args.node.now _
    (part_there x.accounts count all i old.account c.in-Part.is c.if-index-count.true found.0)
    (part_set count all new i n old one at c.index_mut-in-Some.ensures.value refl refl c.if-index-count.true)
    (λ w. part_written w x.accounts count all new i n (in_stored g) old one c.in-Part.is at c.index_mut-in-Some.ensures.value refl refl
    (ap (λ r. record (account_of old.account) { stored = r }) c.swap_node-in-Some.ensures.row) c.if-index-count.true)
    c.swap_node-in-Some.ensures.shape c.swap_node-in-Some.ensures.parts

pub returns-in-None : goal.returns-in-None
returns-in-None c =
    let all = c.in-Part.known in
    let at : place_in all.items c.args.i ≡ None = ap (λ ks. place_in ks c.args.i) (sym c.as_slice.ensures.value) ∙ sym c.in-None.ensures.value in
    stored_missed c.args.i c.args.down.now c.args.state.now (v.Part c.in-Part.count all) c.args.node.now c.in-Part.is
    (part_nowhere c.args.state.now.accounts c.in-Part.count all c.args.i c.in-Part.is c.if-index-count.true at)
