use Rattle.std.proofs.Common.{◌≡◌, ◌-◌, drop}
use Rattle.cad_world.specs.Orders.{rises, name_before}
use Rattle.cad_world_checks.proofs.sound.names_rise.Given as goal

abbrev pub invariant-loop-i : goal.invariant-loop-i
invariant-loop-i l = rises name_before (drop (l.i - 1) l.names) ≡ rises name_before l.names
