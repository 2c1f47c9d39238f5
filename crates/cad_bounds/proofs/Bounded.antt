-- A greater bound changes nothing.
use Rattle.std.proofs.Common.{◌≡◌, ℕ, suc, ◌≤◌, ◌+◌, arith, subst, refl}
use Rattle.cad_world.specs.Fronts.{Front}
use Rattle.cad_world.specs.Rows.{Tree}
use Rattle.cad_world.specs.State.{Outcome}
use Rattle.cad_evaluation.specs.Evaluation.{calls_to}
use Rattle.cad_runs.specs.Run.{bound}
use Rattle.cad_bounds.specs.Laws.{CallsAreBounded, DeploymentsAreBounded, ScriptsAreBounded, TransactionsAreBounded, UnitsNeverRise}
use Rattle.cad_bounds.proofs.Same.{Runs, Enough, Alike, Shrinks, enough_units}
use Rattle.cad_bounds.proofs.Evaluation.{same_calls, near_calls}
use Rattle.cad_bounds.proofs.Run.{same_run_transaction, same_run_deploy, same_run_script}

-- twice by one front end, which says the same, while no more units are left than these
abbrev twice : Front → ℕ → Runs
twice front u = record { units = suc u; Free = ⊥; first = front; second = front; reaches = λ contracts address code w. refl }

same_outcome : {A : Type 0} {o o' : Outcome A} → Alike ⊥ o o' → o ≡ o'
same_outcome h = h (λ e. absurd e)

low : (u : ℕ) → suc u ≤ suc u
low u = omega arith

calls_enough : (u n : ℕ) → bound u ≤ n → Enough (suc u + suc u) n (bound u)
calls_enough u n h = enough_units (suc u + suc u) n (bound u) h (omega arith)

turns_enough : (u n : ℕ) → bound u ≤ n → Enough (suc u) n (bound u)
turns_enough u n h = enough_units (suc u) n (bound u) (omega arith) (omega arith)

pub calls_bounded : CallsAreBounded
calls_bounded front callee r s n h =
    same_outcome (same_calls (twice front s.units) n (bound s.units) (calls_enough s.units n h) callee r s (low s.units)).0

pub transactions_bounded : TransactionsAreBounded
transactions_bounded front t r signers s n h =
    same_outcome (same_run_transaction (twice front s.units) (calls_to front n) (calls_to front (bound s.units)) n (bound s.units) t r signers
    (near_calls (twice front s.units) n (bound s.units) (calls_enough s.units n h)) (turns_enough s.units n h) s (low s.units)).0

pub deployments_bounded : DeploymentsAreBounded
deployments_bounded front c r s n h =
    same_outcome (same_run_deploy (twice front s.units) (calls_to front n) (calls_to front (bound s.units)) c r
    (same_calls (twice front s.units) n (bound s.units) (calls_enough s.units n h)) s (low s.units)).0

pub scripts_bounded : ScriptsAreBounded
scripts_bounded front r s n h =
    same_outcome (same_run_script (twice front s.units) (calls_to front n) (calls_to front (bound s.units)) r
    (same_calls (twice front s.units) n (bound s.units) (calls_enough s.units n h)) s (low s.units)).0

pub never_rise : UnitsNeverRise
never_rise front callee r s n t s' h e =
    subst (λ (o : Outcome Tree). Shrinks s.units o) e (same_calls (twice front s.units) n (bound s.units) (calls_enough s.units n h) callee r s (low s.units)).1
