use Rattle.cad_expressions.proofs.nesting.NestingEvaluator.add.Goals as goal

pub returns : goal.returns
returns g c = c.add.ensures
