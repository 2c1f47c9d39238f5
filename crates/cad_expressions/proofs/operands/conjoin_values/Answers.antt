use Rattle.cad_declarations.specs.Views.{term_of}
use Rattle.cad_expressions.proofs.Seconds.{and_goes}
use Rattle.cad_grammar.specs.declared.expression.BinaryOperator.TheVariants.{And}
use Rattle.std.proofs.Common.{refl}
use Rattle.cad_expressions.proofs.operands.conjoin_values.Goals as goal

pub returns : goal.returns
returns g c = and_goes (g.E.Evaluator.front c.args.evaluator.now) (g.E.Evaluator.calls c.args.evaluator.now) (term_of c.args.right.now) And _ _ _ _ _ refl (c.truth_of-truth.ensures _) c.conjoin.ensures
