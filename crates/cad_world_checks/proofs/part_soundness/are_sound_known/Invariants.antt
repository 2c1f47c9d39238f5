use Rattle.std.proofs.Common.{◌↔◌, map, drop}
use Rattle.std.specs.List.{AllByRecursion}
use Rattle.cad_shapes.specs.Held.{shapes_of}
use Rattle.cad_world.specs.Sound.{SoundAccount}
use Rattle.cad_world_checks.specs.Code.Summaries.{account_in}
use Rattle.cad_world_checks.proofs.part_soundness.are_sound_known.Given as goal

abbrev pub invariant-loop-one : goal.invariant-loop-one
invariant-loop-one l = AllByRecursion (SoundAccount (shapes_of l.shapes)) (map account_in (drop l.one-index l.known)) ↔ AllByRecursion (SoundAccount (shapes_of l.shapes)) (map account_in l.known)
