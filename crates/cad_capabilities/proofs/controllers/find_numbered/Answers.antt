use Rattle.std.proofs.Common.{ℕ, subst}
use Rattle.cad_capabilities.specs.Code.{found_under}
use Rattle.cad_rows.specs.Views.{pure_tree}
use Rattle.cad_state.specs.Views.{CarriesOut}
use Rattle.cad_capabilities.proofs.controllers.find_numbered.Goals as goal

pub returns-in-Ok : goal.returns-in-Ok
returns-in-Ok c = subst (λ (k : ℕ). CarriesOut pure_tree (found_under c.args.address k) c.args.state.now c.args.state.now c.find_controller.result) c.in-Ok.ensures c.find_controller.ensures
