use Rattle.cad_evaluation.specs.Reading.{copied}
use Rattle.cad_evaluation.specs.Standing.{or_nil, without}
use Rattle.cad_locations.specs.Views.{location_of, tree_seen}
use Rattle.cad_rows.specs.Views.{pure_tree}
use Rattle.cad_world.specs.Locations.{read}
use Rattle.cad_world.specs.State.{give}
use Rattle.std.specs.Prelude.{option_map}
use Rattle.cad_standing.proofs.Composing.{stopped_twice}
use Rattle.cad_standing.proofs.values.copy_settled.Goals as goal

pub returns-in-Err : goal.returns-in-Err
returns-in-Err c =
    stopped_twice (option_map tree_seen) pure_tree (read (location_of c.args.location.now)) (λ t. give (or_nil (without c.args.inside t))) copied
    c.args.state.now c.args.state.now c.in-Err.stop c.in-Err.ensures
