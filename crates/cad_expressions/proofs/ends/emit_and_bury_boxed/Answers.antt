use Rattle.cad_making.specs.Dying.{dying_of}
use Rattle.cad_expression_leaves.proofs.Boxing.{carries_boxed}
use Rattle.cad_expressions.specs.Code.Ending.{told_and_gone}
use Rattle.cad_expression_leaves.specs.Views.{trees_of}
use Rattle.cad_expressions.proofs.ends.emit_and_bury_boxed.Goals as goal

pub returns : goal.returns
returns c = carries_boxed (told_and_gone (dying_of c.args.dying) (trees_of c.args.events)) c.args.state.now c.emit_and_bury.new.state c.emit_and_bury.result c.boxed.result c.boxed.ensures c.emit_and_bury.ensures
