use Rattle.std.proofs.Common.{reverse}
use Rattle.cad_declarations.specs.Reached.{reached_from}
use Rattle.cad_declarations.specs.Code.Visits.{left}
use Rattle.cad_declarations.proofs.Visits.{Stacked}
use Rattle.cad_declarations.proofs.link.reached_from.Given as goal

abbrev pub invariant-loop-id : goal.invariant-loop-id
invariant-loop-id l = Stacked l.links l.seen.items l.ahead.items (reached_from l.links l.start)

abbrev pub decreases-loop-id : goal.decreases-loop-id
decreases-loop-id l = left l.links l.seen.items (reverse l.ahead.items)
