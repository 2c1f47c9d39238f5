-- A function that evaluates expressions to a depth.
use Rattle.std.specs.Prelude.{ℕ, Result}
use Rattle.std.specs.declared.alloc.Global.{Global}
use Rattle.std.specs.declared.boxed.Box.{Box}
use denote.Ref.{Bor, MutBor}
use Rattle.cad_declarations.specs.Views.{term_of}
use Rattle.cad_declarations.specs.declared.term.Term.{Term}
use Rattle.cad_evaluation.specs.Callees.{Calls, Front}
use Rattle.cad_expression_leaves.specs.Code.Steps.{evaluated}
use Rattle.cad_expression_leaves.specs.Views.{tree_in}
use Rattle.cad_outcomes.specs.declared.stop.Stop.{Stop}
use Rattle.cad_rows.specs.declared.tree.Tree.{Tree}
use Rattle.cad_state.specs.Views.{FindsAndCarriesOut}
use Rattle.cad_state.specs.declared.state.RunState.{RunState}

pub record Nests {C : Type 0} (ready : C → Type 0) (front : C → Front) (calls : C → Calls) (callees : Bor C) (depth : ℕ)
    (pre : ℕ → Bor C → MutBor RunState → Bor Term → Type 0)
    (post : ℕ → Bor C → MutBor RunState → Bor Term → Result (Box Tree Global) Stop → MutBor RunState → Type 0) : Type 0 where
  -- what the callees rest on
  pub rests : ready callees.now
  pub callable : (old : MutBor RunState) (t : Bor Term) → pre depth callees old t
  pub evaluates : (old new : MutBor RunState) (t : Bor Term) (r : Result (Box Tree Global) Stop) → post depth callees old t r new
      → FindsAndCarriesOut tree_in (evaluated (front callees.now) (calls callees.now) (term_of t.now)) old.now new.now r
