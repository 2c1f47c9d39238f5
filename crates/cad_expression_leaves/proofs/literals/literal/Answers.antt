use Rattle.cad_declarations.specs.Views.{term_of}
use Rattle.cad_expression_leaves.proofs.Boxing.{finds_boxed}
use Rattle.cad_expression_leaves.specs.Code.Steps.{evaluated}
use Rattle.cad_expression_leaves.proofs.literals.literal.Goals as goal

pub returns : goal.returns
returns c front calls = finds_boxed (evaluated front calls (term_of c.args.term.now)) c.args.state.now c.args.state.now c.literal_tree.result c.boxed.result c.boxed.ensures (c.literal_tree.ensures front calls)
