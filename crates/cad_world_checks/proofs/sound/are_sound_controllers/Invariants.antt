use Rattle.std.proofs.Common.{◌↔◌, map, drop}
use Rattle.std.specs.List.{AllByRecursion}
use Rattle.cad_shapes.specs.Held.{shapes_of}
use Rattle.cad_state.specs.Views.{controller_of}
use Rattle.cad_world.specs.Sound.{SoundController}
use Rattle.cad_world_checks.proofs.sound.are_sound_controllers.Given as goal

abbrev pub invariant-loop-controller : goal.invariant-loop-controller
invariant-loop-controller l = AllByRecursion (SoundController (shapes_of l.shapes) l.next) (map controller_of (drop l.controller-index l.controllers)) ↔ AllByRecursion (SoundController (shapes_of l.shapes) l.next) (map controller_of l.controllers)
