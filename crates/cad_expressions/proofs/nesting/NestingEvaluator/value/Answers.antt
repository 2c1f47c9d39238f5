use Rattle.cad_expressions.proofs.nesting.NestingEvaluator.value.Goals as goal

pub returns : goal.returns
returns g c = c.requires.evaluates _ _ _ _ c.run.ensures
