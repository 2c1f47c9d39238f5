use Rattle.std.proofs.Common.{◌≡◌, ◌≤◌, suc, drop}
use Rattle.cad_diagnostics.specs.Positions as spec
use Rattle.cad_diagnostics.proofs.positions.behind_all.Given as goal

-- each byte adds one to the line or the column at most, so that neither leaves its range
abbrev pub invariant-loop-byte : goal.invariant-loop-byte
invariant-loop-byte l = (spec.behind_all l.position (drop l.byte-index l.bytes) ≡ spec.behind_all (spec.at 1 1) l.fn.bytes)
    × (l.position.line ≤ suc l.byte-index) × (l.position.column ≤ suc l.byte-index)
