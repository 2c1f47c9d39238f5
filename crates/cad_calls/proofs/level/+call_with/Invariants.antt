use Rattle.cad_calls.proofs.level.+call_with.Given as goal

abbrev pub decreases-call_with : goal.decreases-call_with
decreases-call_with g l = l.fuel
