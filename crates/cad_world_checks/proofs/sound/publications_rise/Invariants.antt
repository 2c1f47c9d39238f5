use Rattle.std.proofs.Common.{◌≡◌, ◌-◌, drop}
use Rattle.cad_world_checks.proofs.Pairs.{published_rise}
use Rattle.cad_world_checks.proofs.sound.publications_rise.Given as goal

abbrev pub invariant-loop-i : goal.invariant-loop-i
invariant-loop-i l = published_rise (drop (l.i - 1) l.published) ≡ published_rise l.published
