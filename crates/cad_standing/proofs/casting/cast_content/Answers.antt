use Rattle.std.specs.Prelude.{option_map}
use Rattle.cad_rows.specs.Views.{pure_tree}
use Rattle.cad_syntax.specs.Types.{pure_type}
use Rattle.cad_standing.proofs.CastSteps.{content_follows}
use Rattle.cad_standing.proofs.casting.cast_content.Goals as goal

pub returns-in-Ok : goal.returns-in-Ok
returns-in-Ok c =
    content_follows (option_map pure_tree) (pure_type c.args.wanted.now) (pure_tree c.args.tree) (pure_tree c.in-Ok.content) c.args.state.now c.hand_over.new.state c.hand_over.result c.in-Ok.ensures c.hand_over.ensures
