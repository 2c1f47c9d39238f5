use Rattle.std.proofs.Common.{option_map}
use Rattle.cad_outcomes.specs.Outcomes.{no_value}
use Rattle.cad_rows.specs.Views.{pure_tree}
use Rattle.cad_state.proofs.Finding.{find_stopped}
use Rattle.cad_world.specs.State.{done}
use Rattle.cad_assignments.specs.Code.Emptied.{emptied}
use Rattle.cad_locations.specs.Views.{location_of}
use Rattle.cad_assignments.proofs.clearing.drop_old.Goals as goal

pub returns-in-Err : goal.returns-in-Err
returns-in-Err c =
    find_stopped (λ o. option_map pure_tree o) no_value (emptied (location_of c.args.location.now)) (λ _. done) c.args.state.now c.empty.new.state c.empty.new.state c.in-Err.stop c.in-Err.ensures
