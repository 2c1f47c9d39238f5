use Rattle.std.specs.Prelude.{option_map}
use Rattle.cad_locations.specs.Views.{location_of}
use Rattle.cad_rows.specs.Views.{pure_tree}
use Rattle.cad_syntax.specs.Types.{pure_type}
use Rattle.cad_standing.specs.Views.{standing_of}
use Rattle.cad_standing.proofs.TakeLaws.{cast_follows, cast_stops}
use Rattle.cad_standing.proofs.casting.cast_place.Goals as goal

pub returns-in-Ok : goal.returns-in-Ok
returns-in-Ok c =
    cast_follows (option_map pure_tree) (pure_type c.args.wanted.now) (standing_of c.args.place) (location_of c.in-Ok.found) c.args.state.now c.cast_at-cast.new.state c.cast_at-cast.result c.in-Ok.ensures c.cast_at-cast.ensures

pub returns-in-Err : goal.returns-in-Err
returns-in-Err c = cast_stops (option_map pure_tree) (pure_type c.args.wanted.now) (standing_of c.args.place) c.args.state.now c.args.state.now c.in-Err.stop c.in-Err.ensures
