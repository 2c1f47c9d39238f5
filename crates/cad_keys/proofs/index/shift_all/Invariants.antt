use Rattle.cad_keys.specs.Code.Indices.{AreShiftedTo}
use Rattle.cad_keys.proofs.index.shift_all.Given as goal

abbrev pub invariant-loop-i : goal.invariant-loop-i
invariant-loop-i l = AreShiftedTo l.place l.link l.i l.fn.numbers.items l.numbers.items
