use Rattle.cad_infer_containers.proofs.terms.discard_typings.Given as goal

abbrev pub decreases-loop-x : goal.decreases-loop-x
decreases-loop-x l = goal.left-loop-x l
