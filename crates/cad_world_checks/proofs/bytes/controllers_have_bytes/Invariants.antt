use Rattle.std.proofs.Common.{◌↔◌, map, drop}
use Rattle.std.specs.List.{AllByRecursion}
use Rattle.cad_state.specs.Views.{controller_of}
use Rattle.cad_world_checks.specs.Checks.{BorrowedHasBytes}
use Rattle.cad_world_checks.proofs.bytes.controllers_have_bytes.Given as goal

abbrev pub invariant-loop-controller : goal.invariant-loop-controller
invariant-loop-controller l = AllByRecursion BorrowedHasBytes (map controller_of (drop l.controller-index l.controllers)) ↔ AllByRecursion BorrowedHasBytes (map controller_of l.controllers)
