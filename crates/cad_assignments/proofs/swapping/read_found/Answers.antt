use Rattle.std.proofs.Common.{option_map}
use Rattle.cad_outcomes.specs.Outcomes.{no_value}
use Rattle.cad_state.proofs.Finding.{find_stopped}
use Rattle.cad_world.specs.Locations.{read as what_stands}
use Rattle.cad_world.specs.State.{done}
use Rattle.cad_locations.specs.Views.{location_of, tree_seen}
use Rattle.cad_assignments.proofs.swapping.read_found.Goals as goal

pub returns-in-Err : goal.returns-in-Err
returns-in-Err c = find_stopped (option_map tree_seen) no_value (what_stands (location_of c.args.location.now)) (λ _. done) c.args.state.now c.args.state.now c.args.state.now c.in-Err.stop c.in-Err.ensures
