use Rattle.cad_containers.proofs.literals.discard_pairs.Given as goal

abbrev pub decreases-loop-pair : goal.decreases-loop-pair
decreases-loop-pair l = goal.left-loop-pair l
