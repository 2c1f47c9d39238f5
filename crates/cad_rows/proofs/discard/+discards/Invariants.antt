use Rattle.cad_rows.proofs.discard.+discards.Given as goal

abbrev pub decreases-discard_place : goal.decreases-discard_place
decreases-discard_place l = goal.size-discard_place l

abbrev pub decreases-discard_tree : goal.decreases-discard_tree
decreases-discard_tree l = goal.size-discard_tree l

abbrev pub invariant-discard_tree-loop-part : goal.invariant-discard_tree-loop-part
invariant-discard_tree-loop-part l = goal.no_deeper-discard_tree-loop-part l

abbrev pub decreases-discard_tree-loop-part : goal.decreases-discard_tree-loop-part
decreases-discard_tree-loop-part l = goal.left-discard_tree-loop-part l
