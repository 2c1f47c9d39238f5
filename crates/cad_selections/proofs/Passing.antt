-- What is found out in steps that leave the state as it is, each of which passes on what is left to do.
use Rattle.std.proofs.Common.{◌≡◌, Bool, true, ◌&&◌, List, Option, Some, sym, subst, ap, ◌∙◌}
use Rattle.std.specs.Prelude.{Result, Ok, Err}
use Rattle.cad_outcomes.proofs.Steps.{stops_same}
use Rattle.cad_outcomes.specs.declared.stop.Stop.{Stop}
use Rattle.cad_receivers.specs.Views.{spot_of, at_spot}
use Rattle.cad_receivers.specs.declared.receivers.Spot.{Spot}
use Rattle.cad_selections.specs.Code.Readings.{Leaves, FindsAndLeaves}
use Rattle.cad_state.specs.Views.{state_over, FindsAndCarriesOut}
use Rattle.cad_state.specs.declared.state.RunState.{RunState}
use Rattle.cad_world.specs.Receivers as r
use Rattle.cad_world.specs.State.{State, Account, ok, bind, Action, ◌>>=◌, guard, with_some}

-- ---- in one state

-- what comes to the same here
pub here_leaves : {B C : Type 0} (rest : C → Action B) (p p' : Action B) (s : State) (q : Result C Stop) → p s ≡ p' s → Leaves rest p' s q → Leaves rest p s q
here_leaves rest p p' s (Ok c) e h = e ∙ h
here_leaves rest p p' s (Err why) e h = stops_same (p s) (p' s) why e h

pub some_leaves : {A B C : Type 0} (rest : C → Action B) (o : Option A) (a : A) (f : A → Action B) (s : State) (q : Result C Stop)
    → Some a ≡ o → Leaves rest (f a) s q → Leaves rest (with_some o f) s q
some_leaves rest o a f s q e h = subst (λ x. Leaves rest (with_some x f) s q) e h

pub guard_leaves : {B C : Type 0} (rest : C → Action B) (a b : Bool) (p : Action B) (s : State) (q : Result C Stop)
    → a ≡ true → b ≡ true → Leaves rest p s q → Leaves rest (guard (a && b) p) s q
guard_leaves rest a b p s q x y h = subst (λ c. Leaves rest (guard c p) s q) (sym (ap (λ c. c && b) x ∙ y)) h

pub leaves_then : {A B C : Type 0} (rest : C → Action B) (p : Action A) (f : A → Action B) (a : A) (s : State) (q : Result C Stop)
    → p s ≡ ok a s → Leaves rest (f a) s q → Leaves rest (p >>= f) s q
leaves_then rest p f a s (Ok c) e h = ap (λ x. bind x f) e ∙ h
leaves_then rest p f a s (Err why) e h = stops_same (bind (p s) f) (f a s) why (ap (λ x. bind x f) e) h

-- ---- of what a receiver is now

pub looked_leaves : {B C : Type 0} (rest : C → Action B) (receiver : r.Receiver) (f : r.Spot → Action B) (spot : Spot) (x : RunState) (q : Result C Stop)
    → FindsAndCarriesOut spot_of (r.look_at receiver) x x (Ok spot) → ((w : List Account) → Leaves rest (f (spot_of spot)) (state_over w x) q)
    → FindsAndLeaves rest (at_spot receiver f) x q
looked_leaves rest receiver f spot x q first second w ready = leaves_then rest (r.look_at receiver) f (spot_of spot) (state_over w x) q (first w ready) (second w)
