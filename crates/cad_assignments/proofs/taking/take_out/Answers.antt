use Rattle.std.proofs.Common.{Some, Ok, option_map, subst}
use Rattle.cad_labels.specs.Laws.{AnyOne}
use Rattle.cad_rows.specs.Views.{pure_tree}
use Rattle.cad_state.specs.Views.{FindsAndCarriesOut}
use Rattle.cad_state.proofs.Finding.{find_then, find_stopped, find_given}
use Rattle.cad_world.specs.Locations.{as_read}
use Rattle.cad_world.specs.State.{give, with_some}
use Rattle.cad_assignments.specs.Code.Emptied.{emptied}
use Rattle.cad_locations.specs.Views.{location_of}
use Rattle.cad_assignments.proofs.Emptied.{emptied_keeps}
use Rattle.cad_assignments.proofs.taking.take_out.Goals as goal

pub returns-in-Ok-Some : goal.returns-in-Ok-Some
returns-in-Ok-Some c =
    let x = location_of c.args.location.now in
    find_then AnyOne (emptied x) (emptied_keeps x) (λ o. option_map pure_tree o) pure_tree (λ o. with_some o (λ t. give (as_read x t))) (Some c.in-Ok-Some.tree)
    c.args.state.now c.empty.new.state c.empty.new.state c.as_taken.result (subst (λ o. FindsAndCarriesOut (λ p. option_map pure_tree p) (emptied x) c.args.state.now c.empty.new.state (Ok o)) c.in-Ok-Some.field-0-is c.in-Ok-Some.ensures) (λ _. find_given pure_tree (give (as_read x (pure_tree c.in-Ok-Some.tree))) c.empty.new.state c.as_taken.result c.as_taken.ensures)

pub returns-in-Err : goal.returns-in-Err
returns-in-Err c =
    let x = location_of c.args.location.now in
    find_stopped (λ o. option_map pure_tree o) pure_tree (emptied x) (λ o. with_some o (λ t. give (as_read x t))) c.args.state.now c.empty.new.state c.empty.new.state c.in-Err.stop c.in-Err.ensures
