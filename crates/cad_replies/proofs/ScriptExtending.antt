-- An answer under a front end is one under each that says more.
use Rattle.std.proofs.Common.{◌≢◌, ℕ, sym, ap, ◌∙◌}
use Rattle.serde_json.specs.Data.{Data}
use Rattle.cad_bounds.specs.Fronts.{Extends}
use Rattle.cad_bounds.specs.Laws.{ScriptsExtend}
use Rattle.cad_runs.specs.Commands.{Reply, failed}
use Rattle.cad_runs.specs.Run.{bound}
use Rattle.cad_world.specs.Begin.{begun}
use Rattle.cad_world.specs.Fronts.{Front}
use Rattle.cad_world.specs.Rows.{Row}
use Rattle.cad_world.specs.State.{Program, World}
use Rattle.cad_replies.specs.Scripts.{AnswersExtend, Ran, told_reply, no_main, miscounted, unfit, ran}

run_extends : ScriptsExtend → (f g : Front) (w : World) (p : Program) (r : Row) (units : ℕ) (reply : Reply Data) → Extends f g → Ran f w p r units reply → reply ≢ failed 0 → Ran g w p r units reply
run_extends law f g w p r units reply more told known =
    ap told_reply (law f g r (begun p units w) (bound units) more (λ e. known (sym told ∙ ap told_reply e))) ∙ told

pub answers_extend : ScriptsExtend → AnswersExtend
answers_extend law f g w p all units reply more (no_main e) known = no_main e
answers_extend law f g w p all units reply more (miscounted e n) known = miscounted e n
answers_extend law f g w p all units reply more (unfit e n h) known = unfit e n h
answers_extend law f g w p all units reply more (ran {r = row} e d h told) known = ran e d h (run_extends law f g w p row units reply more told known)
