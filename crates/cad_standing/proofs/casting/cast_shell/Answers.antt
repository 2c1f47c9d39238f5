use Rattle.std.specs.Prelude.{option_map}
use Rattle.cad_rows.specs.Views.{pure_tree}
use Rattle.cad_syntax.specs.Types.{pure_type}
use Rattle.cad_world.specs.Locations.{variable}
use Rattle.cad_standing.proofs.CastSteps.{cast_typed, cast_untyped}
use Rattle.cad_standing.proofs.casting.cast_shell.Goals as goal

pub returns-in-Ok : goal.returns-in-Ok
returns-in-Ok c =
    cast_typed (option_map pure_tree) (pure_type c.args.wanted.now) (pure_type c.in-Ok.own) (variable c.args.x) (pure_tree c.args.shell.now)
    c.args.state.now c.own_type_of.new.state c.cast_of_type-cast.new.state c.cast_of_type-cast.result c.in-Ok.ensures c.cast_of_type-cast.ensures

pub returns-in-Err : goal.returns-in-Err
returns-in-Err c =
    cast_untyped (option_map pure_tree) (pure_type c.args.wanted.now) (variable c.args.x) (pure_tree c.args.shell.now) c.args.state.now c.own_type_of.new.state c.in-Err.stop c.in-Err.ensures
