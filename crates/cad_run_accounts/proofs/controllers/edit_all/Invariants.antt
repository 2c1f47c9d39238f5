use Rattle.std.proofs.Common.{◌≡◌, map, length}
use Rattle.cad_evaluation.specs.Capabilities.{change_controller}
use Rattle.cad_run_accounts.specs.Code.Edits.{edited}
use Rattle.cad_run_accounts.proofs.Orders.{numbered, rest_changed}
use Rattle.cad_state.specs.Views.{controller_of}
use Rattle.cad_run_accounts.proofs.controllers.edit_all.Given as goal

abbrev pub invariant-loop-i : goal.invariant-loop-i
invariant-loop-i l = (rest_changed l.i (numbered l.n (edited l.edit)) (map controller_of l.all.items) ≡ change_controller l.n (edited l.edit) (map controller_of l.fn.all.items)) × (length l.all.items ≡ length l.fn.all.items)
