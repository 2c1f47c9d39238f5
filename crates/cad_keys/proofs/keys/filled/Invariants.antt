use Rattle.std.proofs.Common.{take}
use Rattle.cad_keys.specs.Code.Found.{Fits}
use Rattle.cad_keys.proofs.keys.filled.Given as goal

abbrev pub invariant-loop-row : goal.invariant-loop-row
invariant-loop-row l = Fits l.index (take l.row-index l.rows)
