use Rattle.cad_world_checks.proofs.Numbers.{Seen}
use Rattle.cad_world_checks.proofs.identities.are_distinct.Given as goal

abbrev pub invariant-loop-number : goal.invariant-loop-number
invariant-loop-number l = Seen l.seen l.numbers l.number-index
