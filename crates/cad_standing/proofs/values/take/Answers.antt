use Rattle.cad_locations.specs.Views.{location_of}
use Rattle.cad_rows.specs.Views.{pure_tree}
use Rattle.cad_standing.specs.Views.{standing_of}
use Rattle.cad_standing.proofs.TakeLaws.{taken_follows, taken_stops}
use Rattle.cad_standing.proofs.values.take.Goals as goal

pub returns-in-Ok : goal.returns-in-Ok
returns-in-Ok c =
    taken_follows pure_tree (standing_of c.args.place) (location_of c.in-Ok.found) c.args.state.now c.take_variable-value.new.state c.take_variable-value.result c.in-Ok.ensures c.take_variable-value.ensures

pub returns-in-Err : goal.returns-in-Err
returns-in-Err c = taken_stops pure_tree (standing_of c.args.place) c.args.state.now c.args.state.now c.in-Err.stop c.in-Err.ensures
