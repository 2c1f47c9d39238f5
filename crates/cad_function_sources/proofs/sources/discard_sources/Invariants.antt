use Rattle.cad_function_sources.proofs.sources.discard_sources.Given as goal

abbrev pub decreases-loop-source : goal.decreases-loop-source
decreases-loop-source l = goal.left-loop-source l
