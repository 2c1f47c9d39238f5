-- Calls that are nested at most so deep.
use Rattle.std.specs.Prelude.{ℕ, Result}
use Rattle.std.specs.Global.{Box, Vec}
use denote.Ref.{Bor, MutBor}
use Rattle.cad_evaluation.specs.Callees.{Front}
use Rattle.cad_evaluation.specs.Evaluation.{calls_to}
use Rattle.cad_execution.specs.Passed.{callee_of, tree_in}
use Rattle.cad_execution.specs.Passed.{Callee}
use Rattle.cad_label_runs.proofs.Evaluation.{calls_keep}
use Rattle.cad_labels.specs.Laws.{CalleesKeep}
use Rattle.cad_outcomes.specs.declared.stop.Stop.{Stop}
use Rattle.cad_rows.specs.Views.{pure_row}
use Rattle.cad_rows.specs.declared.tree.Place.{Place}
use Rattle.cad_rows.specs.declared.tree.Tree.{Tree}
use Rattle.cad_state.specs.Views.{FindsAndCarriesOut}
use Rattle.cad_state.specs.declared.state.RunState.{RunState}

-- a function that calls, nested so deep
pub record Nests {E : Type 0} (front : E → Front) (end : Bor E) (fuel : ℕ)
    (pre : ℕ → Bor E → MutBor RunState → Callee → Vec Place → Type 0)
    (post : ℕ → Bor E → MutBor RunState → Callee → Vec Place → Result (Box Tree) Stop → MutBor RunState → Type 0) : Type 0 where
  pub callable : (old : MutBor RunState) (callee : Callee) (arguments : Vec Place) → pre fuel end old callee arguments
  pub does : (old new : MutBor RunState) (callee : Callee) (arguments : Vec Place) (r : Result (Box Tree) Stop) → post fuel end old callee arguments r new
      → FindsAndCarriesOut tree_in (calls_to (front end.now) fuel (callee_of callee) (pure_row arguments.items)) old.now new.now r

-- they keep labels apart
pub level_keeps : (front : Front) (fuel : ℕ) → CalleesKeep (calls_to front fuel)
level_keeps front fuel = calls_keep front fuel
