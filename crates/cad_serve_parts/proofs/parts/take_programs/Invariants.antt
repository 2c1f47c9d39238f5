use Rattle.cad_serve_parts.proofs.PartLaws.{HaveTaken}
use Rattle.cad_serve_parts.proofs.parts.take_programs.Given as goal

abbrev pub invariant-loop-i : goal.invariant-loop-i
invariant-loop-i l = HaveTaken l.i l.contracts.items l.fn.contracts.items l.others
