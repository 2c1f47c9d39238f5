use Rattle.cad_declarations.specs.Views.{term_of}
use Rattle.cad_expressions.proofs.Seconds.{or_goes}
use Rattle.cad_grammar.specs.declared.expression.BinaryOperator.TheVariants.{Or}
use Rattle.std.proofs.Common.{refl}
use Rattle.cad_expressions.proofs.operands.disjoin_values.Goals as goal

pub returns : goal.returns
returns g c = or_goes (g.E.Evaluator.front c.args.evaluator.now) (g.E.Evaluator.calls c.args.evaluator.now) (term_of c.args.right.now) Or _ _ _ _ _ refl (c.truth_of-truth.ensures _) c.disjoin.ensures
