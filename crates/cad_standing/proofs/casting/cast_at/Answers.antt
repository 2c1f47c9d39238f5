use Rattle.std.specs.Prelude.{option_map}
use Rattle.cad_locations.specs.Views.{location_of}
use Rattle.cad_rows.specs.Views.{pure_tree}
use Rattle.cad_syntax.specs.Types.{pure_type}
use Rattle.cad_standing.proofs.TakeLaws.{cast_at}
use Rattle.cad_standing.proofs.casting.cast_at.Goals as goal

pub returns-in-Some : goal.returns-in-Some
returns-in-Some c =
    cast_at (option_map pure_tree) (pure_type c.args.wanted.now) (location_of c.args.location.now) c.in-Some.x c.args.state.now c.cast_variable.new.state c.cast_variable.result c.in-Some.ensures c.cast_variable.ensures
