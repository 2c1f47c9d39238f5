use Rattle.cad_evaluation.specs.Numbers.{negated}
use Rattle.cad_evaluation.specs.Operators.{unary}
use Rattle.cad_grammar.specs.declared.expression.UnaryOperator.{UnaryOperator}
use Rattle.cad_outcomes.proofs.Steps.{gives_here}
use Rattle.cad_outcomes.specs.Outcomes.{Does}
use Rattle.cad_rows.specs.Views.{pure_tree}
use Rattle.cad_state.specs.Views.{state_over}
use Rattle.std.proofs.Common.{subst, sym}
use Rattle.cad_grammar.specs.declared.expression.UnaryOperator.TheVariants.{Not}
use Rattle.cad_value_operations.proofs.operators.made_of.Goals as goal

pub returns-in-Negate : goal.returns-in-Negate
returns-in-Negate c = λ w ready. subst (λ (op : UnaryOperator). Does pure_tree (unary op (pure_tree c.args.tree.now)) (state_over w c.args.state.now) (state_over w c.args.state.now) c.negated.result) (sym c.in-Negate.is) (gives_here pure_tree (negated (pure_tree c.args.tree.now)) c.negated.result (state_over w c.args.state.now) c.negated.ensures)

pub returns-in-Not : goal.returns-in-Not
returns-in-Not c = λ w ready. subst (λ (op : UnaryOperator). Does pure_tree (unary op (pure_tree c.args.tree.now)) (state_over w c.args.state.now) (state_over w c.args.state.now) c.denied.result) (sym c.in-Not.is) (gives_here pure_tree (unary Not (pure_tree c.args.tree.now)) c.denied.result (state_over w c.args.state.now) c.denied.ensures)

pub returns-in-Dereference : goal.returns-in-Dereference
returns-in-Dereference c = λ w ready. subst (λ (op : UnaryOperator). Does pure_tree (unary op (pure_tree c.args.tree.now)) (state_over w c.args.state.now) (state_over w c.dereferenced.new.state) c.dereferenced.result) (sym c.in-Dereference.is) (c.dereferenced.ensures w ready)
