use Rattle.std.proofs.Common.{◌≡◌, ◌-◌, drop}
use Rattle.cad_world_checks.proofs.Pairs.{controlled_rise}
use Rattle.cad_world_checks.proofs.sound.controllers_rise.Given as goal

abbrev pub invariant-loop-i : goal.invariant-loop-i
invariant-loop-i l = controlled_rise (drop (l.i - 1) l.controllers) ≡ controlled_rise l.controllers
