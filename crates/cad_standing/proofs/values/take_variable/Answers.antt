use Rattle.cad_locations.specs.Views.{location_of}
use Rattle.cad_rows.specs.Views.{pure_tree}
use Rattle.cad_standing.proofs.TakeLaws.{taken_at}
use Rattle.cad_standing.proofs.values.take_variable.Goals as goal

pub returns-in-Some : goal.returns-in-Some
returns-in-Some c =
    taken_at pure_tree (location_of c.args.location.now) c.in-Some.x c.args.state.now c.take_variable.new.self c.take_variable.result c.in-Some.ensures c.take_variable.ensures
