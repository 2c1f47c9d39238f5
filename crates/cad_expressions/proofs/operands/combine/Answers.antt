use Rattle.cad_expression_leaves.proofs.Going.{goes_same}
use Rattle.cad_expression_leaves.specs.Code.Steps.{GoesOn, applied, combined_with}
use Rattle.std.proofs.Common.{subst, sym}
use Rattle.cad_declarations.specs.Views.{term_of}
use Rattle.cad_expressions.proofs.Seconds.{otherwise}
use Rattle.cad_grammar.specs.declared.expression.BinaryOperator.{BinaryOperator}
use Rattle.cad_labels.specs.Laws.{HasNone}
use Rattle.cad_expression_leaves.specs.Views.{tree_in}
use Rattle.cad_expressions.proofs.operands.combine.Goals as goal

pub returns-in-And : goal.returns-in-And
returns-in-And g c = subst (λ (q : BinaryOperator). GoesOn HasNone tree_in tree_in (combined_with (g.E.Evaluator.front c.args.evaluator.now) (g.E.Evaluator.calls c.args.evaluator.now) q (term_of c.args.right.now)) c.args.left c.args.state.now c.conjoin_values.new.state c.conjoin_values.result) (sym c.in-And.is) c.conjoin_values.ensures

pub returns-in-Or : goal.returns-in-Or
returns-in-Or g c = subst (λ (q : BinaryOperator). GoesOn HasNone tree_in tree_in (combined_with (g.E.Evaluator.front c.args.evaluator.now) (g.E.Evaluator.calls c.args.evaluator.now) q (term_of c.args.right.now)) c.args.left c.args.state.now c.disjoin_values.new.state c.disjoin_values.result) (sym c.in-Or.is) c.disjoin_values.ensures

pub returns-in_default : goal.returns-in_default
unfolding applied
returns-in_default g c = goes_same HasNone tree_in tree_in (applied (g.E.Evaluator.front c.args.evaluator.now) (g.E.Evaluator.calls c.args.evaluator.now) c.args.operator (term_of c.args.right.now)) (combined_with (g.E.Evaluator.front c.args.evaluator.now) (g.E.Evaluator.calls c.args.evaluator.now) c.args.operator (term_of c.args.right.now)) c.args.left c.args.state.now c.apply.new.state c.apply.result (λ a s. otherwise (g.E.Evaluator.front c.args.evaluator.now) (g.E.Evaluator.calls c.args.evaluator.now) (term_of c.args.right.now) c.args.operator a c.in_default.not-And c.in_default.not-Or s) c.apply.ensures
