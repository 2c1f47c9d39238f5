use Rattle.std.proofs.Common.{◌≡◌, drop, map}
use Rattle.cad_state.specs.Views.{controller_of}
use Rattle.cad_world.specs.OwnTypes as own
use Rattle.cad_run_accounts.proofs.controllers.controller_in.Given as goal

abbrev pub invariant-loop-controller : goal.invariant-loop-controller
invariant-loop-controller l = own.controller_in (map controller_of (drop l.controller-index l.all)) l.n ≡ own.controller_in (map controller_of l.all) l.n
