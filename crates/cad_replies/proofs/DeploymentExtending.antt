-- An outcome under a front end is one under each that says more.
use Rattle.std.proofs.Common.{◌≢◌, ℕ, sym, ap, ◌∙◌}
use Rattle.cad_bounds.specs.Fronts.{Extends}
use Rattle.cad_bounds.specs.Laws.{DeploymentsExtend}
use Rattle.cad_command_runs.specs.Passed.{new_contract}
use Rattle.cad_runs.specs.Commands.{failed}
use Rattle.cad_runs.specs.Run.{bound}
use Rattle.cad_run_outcomes.specs.Outcomes.{Outcome, settled, stays}
use Rattle.cad_world.specs.Begin.{begun}
use Rattle.cad_world.specs.Fronts.{Front}
use Rattle.cad_world.specs.Rows.{Row}
use Rattle.cad_world.specs.State.{Contract, Program, World}
use Rattle.cad_replies.specs.Deployments.{OutcomesExtend, Ran, misnamed, unfit, runs}

run_extends : DeploymentsExtend → (f g : Front) (w : World) (p : Program) (c : Contract) (r : Row) (units : ℕ) (outcome : Outcome)
    → Extends f g → Ran f w p c r units outcome → outcome ≢ stays (failed 0) → Ran g w p c r units outcome
run_extends law f g w p c r units outcome more told known = ap settled (law f g c r (begun p units w) (bound units) more (λ e. known (sym told ∙ ap settled e))) ∙ told

pub outcomes_extend : DeploymentsExtend → OutcomesExtend
outcomes_extend law f g w p id code all units outcome more (misnamed e) known = misnamed e
outcomes_extend law f g w p id code all units outcome more (unfit e h) known = unfit e h
outcomes_extend law f g w p id code all units outcome more (runs {r = row} e d h told) known =
    runs e d h (run_extends law f g w p (new_contract id code p) row units outcome more told known)
