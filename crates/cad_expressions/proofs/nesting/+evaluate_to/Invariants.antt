use Rattle.cad_expressions.proofs.nesting.+evaluate_to.Given as goal

abbrev pub decreases-evaluate_to : goal.decreases-evaluate_to
decreases-evaluate_to g l = l.depth
