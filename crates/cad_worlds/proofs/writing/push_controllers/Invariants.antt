use Rattle.std.proofs.Common.{◌≡◌, ◌++◌, map, drop}
use Rattle.cad_worlds.specs.Sections.{controlled_of}
use Rattle.cad_worlds.specs.Standing.{register_of}
use Rattle.cad_worlds.proofs.writing.push_controllers.Given as goal

abbrev pub invariant-loop-controller : goal.invariant-loop-controller
invariant-loop-controller l = map register_of l.rows.items ++ map (controlled_of l.address) (drop l.controller-index l.controllers) ≡ map register_of l.fn.rows.items ++ map (controlled_of l.address) l.controllers
