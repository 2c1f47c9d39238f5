use Rattle.std.proofs.Common.{sym, subst, Err}
use Rattle.cad_labels.specs.Laws.{AnyOne}
use Rattle.cad_state.specs.Views.{state_over, FindsAndCarriesOut}
use Rattle.cad_state.proofs.Finding.{find_same, find_then, find_stopped}
use Rattle.cad_world.specs.State.{◌>>=◌}
use Rattle.cad_outcomes.specs.Outcomes.{no_value}
use Rattle.cad_values.specs.Values.{pure_value}
use Rattle.cad_assignments.specs.Code.Fills.{position_at, dropped, dropped_at}
use Rattle.cad_assignments.proofs.Fills.{dropped_first, position_keeps}
use Rattle.cad_assignments.proofs.entering.remove_key.Goals as goal

pub returns-in-Ok-Some : goal.returns-in-Ok-Some
returns-in-Ok-Some c =
    let l = c.args.label in
    let k = pure_value c.args.key.now in
    find_same no_value (dropped l k) (position_at l k >>= dropped_at l) c.args.state.now c.drop_at.new.state c.drop_at.result (λ accounts ready. dropped_first l k (state_over accounts c.args.state.now))
    (find_then AnyOne (position_at l k) (position_keeps l k) (λ o. o) no_value (dropped_at l) c.in-Ok-Some.field-0 c.args.state.now c.args.state.now c.drop_at.new.state c.drop_at.result c.in-Ok-Some.ensures
    (λ _. subst (λ o. FindsAndCarriesOut no_value (dropped_at l o) c.args.state.now c.drop_at.new.state c.drop_at.result) (sym c.in-Ok-Some.field-0-is) c.drop_at.ensures))

pub returns-in-Err : goal.returns-in-Err
returns-in-Err c =
    let l = c.args.label in
    let k = pure_value c.args.key.now in
    find_same no_value (dropped l k) (position_at l k >>= dropped_at l) c.args.state.now c.args.state.now (Err c.in-Err.stop) (λ accounts ready. dropped_first l k (state_over accounts c.args.state.now))
    (find_stopped (λ o. o) no_value (position_at l k) (dropped_at l) c.args.state.now c.args.state.now c.args.state.now c.in-Err.stop c.in-Err.ensures)
