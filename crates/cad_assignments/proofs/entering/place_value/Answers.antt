use Rattle.std.proofs.Common.{sym, subst, Err}
use Rattle.cad_labels.specs.Laws.{AnyOne}
use Rattle.cad_state.specs.Views.{state_over, FindsAndCarriesOut}
use Rattle.cad_state.proofs.Finding.{find_same, find_then, find_stopped}
use Rattle.cad_world.specs.State.{◌>>=◌}
use Rattle.cad_outcomes.specs.Outcomes.{no_value}
use Rattle.cad_rows.specs.Views.{pure_tree}
use Rattle.cad_values.specs.Values.{pure_value}
use Rattle.cad_assignments.specs.Code.Fills.{position_at, placed, placed_at}
use Rattle.cad_assignments.proofs.Fills.{placed_first, position_keeps}
use Rattle.cad_assignments.proofs.entering.place_value.Goals as goal

pub returns-in-Ok-Some : goal.returns-in-Ok-Some
returns-in-Ok-Some c =
    let l = c.args.label in
    let k = pure_value c.args.key.now in
    let t = pure_tree c.args.tree in
    find_same no_value (placed l k t) (position_at l k >>= placed_at l k t) c.args.state.now c.fill_under.new.state c.fill_under.result (λ accounts ready. placed_first l k t (state_over accounts c.args.state.now))
    (find_then AnyOne (position_at l k) (position_keeps l k) (λ o. o) no_value (placed_at l k t) c.in-Ok-Some.field-0 c.args.state.now c.args.state.now c.fill_under.new.state c.fill_under.result c.in-Ok-Some.ensures
    (λ _. subst (λ o. FindsAndCarriesOut no_value (placed_at l k t o) c.args.state.now c.fill_under.new.state c.fill_under.result) (sym c.in-Ok-Some.field-0-is) c.fill_under.ensures))

pub returns-in-Ok-None : goal.returns-in-Ok-None
returns-in-Ok-None c =
    let l = c.args.label in
    let k = pure_value c.args.key.now in
    let t = pure_tree c.args.tree in
    find_same no_value (placed l k t) (position_at l k >>= placed_at l k t) c.args.state.now c.add_entry.new.state c.add_entry.result (λ accounts ready. placed_first l k t (state_over accounts c.args.state.now))
    (find_then AnyOne (position_at l k) (position_keeps l k) (λ o. o) no_value (placed_at l k t) c.in-Ok-None.field-0 c.args.state.now c.args.state.now c.add_entry.new.state c.add_entry.result c.in-Ok-None.ensures
    (λ _. subst (λ o. FindsAndCarriesOut no_value (placed_at l k t o) c.args.state.now c.add_entry.new.state c.add_entry.result) (sym c.in-Ok-None.field-0-is) c.add_entry.ensures))

pub returns-in-Err : goal.returns-in-Err
returns-in-Err c =
    let l = c.args.label in
    let k = pure_value c.args.key.now in
    let t = pure_tree c.args.tree in
    find_same no_value (placed l k t) (position_at l k >>= placed_at l k t) c.args.state.now c.args.state.now (Err c.in-Err.stop) (λ accounts ready. placed_first l k t (state_over accounts c.args.state.now))
    (find_stopped (λ o. o) no_value (position_at l k) (placed_at l k t) c.args.state.now c.args.state.now c.args.state.now c.in-Err.stop c.in-Err.ensures)
