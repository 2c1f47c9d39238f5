use Rattle.std.specs.Prelude.{option_map}
use Rattle.std.proofs.Common.{Option, None, refl}
use Rattle.cad_rows.specs.Views.{pure_tree}
use Rattle.cad_syntax.specs.Types.{pure_type}
use Rattle.cad_rows.specs.declared.tree.Tree.{Tree}
use Rattle.cad_world.specs.Locations.{variable}
use Rattle.cad_standing.proofs.CastSteps.{choice_taken, choice_stays}
use Rattle.cad_standing.proofs.casting.cast_of_type.Goals as goal

pub returns-then-is : goal.returns-then-is
returns-then-is c =
    choice_taken (option_map pure_tree) (pure_type c.args.wanted.now) (pure_type c.args.own.now) (variable c.args.x) c.in-Ok.is' c.args.state.now c.cast_taken.new.state c.cast_taken.result
    c.in-Ok.ensures.told c.if-is.true c.cast_taken.ensures

pub returns-else-is : goal.returns-else-is
returns-else-is c =
    choice_stays {D = Option Tree} (option_map pure_tree) (pure_type c.args.wanted.now) (pure_type c.args.own.now) (variable c.args.x) c.in-Ok.is' c.args.state.now None
    c.in-Ok.ensures.told c.if-is.false refl
