-- Runs that begin over a World.
use Rattle.std.proofs.Common.{◌≡◌, ℕ, suc, ◌+◌, ◌*◌, ◌≤◌, List, [], map, Option, Some, None, refl, sym, ap, subst, arith}
use Rattle.std.specs.Prelude.{Result}
use Rattle.cad_labels.proofs.Gone.{found_given}
use Rattle.cad_labels.proofs.Places.{begins_without}
use Rattle.cad_outcomes.specs.Outcomes.{Does}
use Rattle.cad_outcomes.specs.declared.stop.Stop.{Stop}
use Rattle.cad_runs.specs.Run.{bound}
use Rattle.cad_state.specs.Views.{state_over, AreUnnamed, IsReady}
use Rattle.cad_state.specs.declared.state.RunState.{RunState}
use Rattle.cad_world.specs.Begin.{begun, kept_account, IsKept}
use Rattle.cad_world.specs.Labels.{found_in_accounts, found_in_contracts}
use Rattle.cad_world.specs.Marks.{AreGivenOnce}
use Rattle.cad_world.specs.Rows.{Found, either}
use Rattle.cad_world.specs.State.{Account, Program, State, World, Action}

-- how deep calls may nest
pub fuel : (n : ℕ) → 2 * n + 2 ≡ bound n
fuel n = omega arith

-- nothing is found by a label in accounts without labels
unnamed : (p : Program) (units : ℕ) (base : List Account) → map kept_account base ≡ base → AreUnnamed base
unnamed p units base kept l = go (found_in_accounts l base) refl
  where
    w : World
    w = record { accounts = base; contracts = []; next_identity = 1 }

    go : (o : Option Found) → found_in_accounts l base ≡ o → found_in_accounts l base ≡ None
    go None e = e
    go (Some f) e =
        let low : suc l ≤ 0 = found_given (begun p units w) l f (begins_without p units w (record { accounts = kept; contracts = refl; rising = refl })) (ap (λ o. either o (found_in_contracts l [])) e) in
        absurd (omega (arith, low))

-- a run that begins over a World as it stands between runs, over accounts without labels
pub ran_so : {A B : Type 0} (view : B → A) (a : Action A) (p : Program) (units : ℕ) (base : List Account) (w : World) (x y : RunState) (outcome : Result B Stop)
    → state_over base x ≡ begun p units w → map kept_account base ≡ base → IsKept w → (IsReady base x → Does view a (state_over base x) (state_over base y) outcome)
    → Does view a (begun p units w) (state_over base y) outcome
ran_so view a p units base w x y outcome starts bare kept carries =
    let once : AreGivenOnce (state_over base x) = subst AreGivenOnce (sym starts) (begins_without p units w kept) in
    subst (λ (s : State). Does view a s (state_over base y) outcome) starts (carries (record { unnamed = unnamed p units base bare; once = once }))
