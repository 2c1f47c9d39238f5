use Rattle.std.proofs.Common.{◌≡◌, ◌+◌, suc, map, ap, sym, arith}
use Rattle.std.specs.Prelude.{slice_set}
use Rattle.cad_state.specs.Views.{contract_of, state_over}
use Rattle.cad_world.specs.Labels.{change_value}
use Rattle.cad_world.specs.Rows.{named}
use Rattle.cad_world.specs.State.{ok}
use Rattle.cad_locations.proofs.Contracts.{value_written}
use Rattle.cad_locations.proofs.naming.name_value.Goals as goal

pub returns-in-Ok : goal.returns-in-Ok
returns-in-Ok c = λ accounts.
    let s = c.args.state.now in
    let old = c.index_mut.result.now in
    let first = c.in-Some.ensures in
    let more : suc s.next_label ≡ s.next_label + 1 = omega arith in
    let values : map contract_of (slice_set s.contracts.items c.in-Some.i (record old { value = c.name_in.new.row })) ≡ change_value c.args.id.now (named 0 s.next_label) (map contract_of s.contracts.items) =
    value_written c.args.id.now (named 0 s.next_label) s.contracts.items c.in-Some.i old (record old { value = c.name_in.new.row })
    first.before first.bound c.index_mut.ensures.value (first.here old c.index_mut.ensures.value) (ap (λ r. record (contract_of old) { value = r }) c.in-Ok.ensures) in
    ap (ok s.next_label) (λ j. record (state_over accounts s) { contracts = sym values j; next_label = more j })
