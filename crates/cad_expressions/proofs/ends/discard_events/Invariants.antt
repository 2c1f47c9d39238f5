use Rattle.cad_expressions.proofs.ends.discard_events.Given as goal

abbrev pub decreases-loop-event : goal.decreases-loop-event
decreases-loop-event l = goal.left-loop-event l
