use Rattle.std.proofs.Common.{◌≡◌, ◌-◌, drop}
use Rattle.cad_wire.specs.Body.{are_ascending}
use Rattle.cad_wire.proofs.body.is_ascending.Given as goal

abbrev pub invariant-loop-i : goal.invariant-loop-i
invariant-loop-i l = are_ascending l.entries ≡ are_ascending (drop (l.i - 1) l.entries)
