use Rattle.std.proofs.Common.{◌↔◌, map, drop}
use Rattle.std.specs.List.{AllByRecursion}
use Rattle.cad_shapes.specs.Held.{shapes_of}
use Rattle.cad_state.specs.Views.{publication_of}
use Rattle.cad_world.specs.Sound.{SoundPublication}
use Rattle.cad_world_checks.proofs.sound.are_sound_publications.Given as goal

abbrev pub invariant-loop-publication : goal.invariant-loop-publication
invariant-loop-publication l = AllByRecursion (SoundPublication (shapes_of l.shapes)) (map publication_of (drop l.publication-index l.published)) ↔ AllByRecursion (SoundPublication (shapes_of l.shapes)) (map publication_of l.published)
