-- Tests and steps that come to the same.
use Rattle.std.proofs.Common.{◌≡◌, Bool, true, false, ap}
use Rattle.std.specs.Prelude.{ℕ, Option, Some, None, List, Result, Ok, Err}
use Rattle.cad_outcomes.proofs.Steps.{then, stops_same}
use Rattle.cad_outcomes.specs.Outcomes.{Stops}
use Rattle.cad_outcomes.specs.declared.stop.Stop.{Stop}
use Rattle.cad_state.proofs.Finding.{find_same}
use Rattle.cad_state.specs.Views.{state_over, IsReady, CarriesOut, FindsAndCarriesOut}
use Rattle.cad_state.specs.declared.state.RunState.{RunState}
use Rattle.cad_world.specs.Fronts as fronts
use Rattle.cad_world.specs.Fronts.{Verdict, accepted, judged}
use Rattle.cad_world.specs.State.{Program, State, Account, Outcome, ok, failed, ill, bind, Action, ◌>>=◌, ◌>>◌, done, guard, require, with_some}

-- ---- in one state

pub required : {A : Type 0} (e : ℕ) (b : Bool) (p : Action A) (s : State) → b ≡ true → require e b p s ≡ p s
required e b p s is = ap (λ (x : Bool). require e x p s) is

pub refused : {A : Type 0} (e : ℕ) (b : Bool) (p : Action A) (s : State) → b ≡ false → require e b p s ≡ failed e
refused e b p s is = ap (λ (x : Bool). require e x p s) is

pub guarded : {A : Type 0} (b : Bool) (p : Action A) (s : State) → b ≡ true → guard b p s ≡ p s
guarded b p s is = ap (λ (x : Bool). guard x p s) is

pub unguarded : {A : Type 0} (b : Bool) (p : Action A) (s : State) → b ≡ false → guard b p s ≡ ill
unguarded b p s is = ap (λ (x : Bool). guard x p s) is

pub with_it : {A B : Type 0} (o : Option A) (a : A) (f : A → Action B) (s : State) → o ≡ Some a → with_some o f s ≡ f a s
with_it {A = A} o a f s is = ap (λ (x : Option A). with_some x f s) is

pub without_it : {A B : Type 0} (o : Option A) (f : A → Action B) (s : State) → o ≡ None → with_some o f s ≡ ill
without_it {A = A} o f s is = ap (λ (x : Option A). with_some x f s) is

pub judged_well : {A : Type 0} (e : ℕ) (v : Verdict) (p : Program) (f : Program → Action A) (s : State) → v ≡ accepted p → judged e v f s ≡ f p s
judged_well e v p f s is = ap (λ (x : Verdict). judged e x f s) is

pub judged_ill : {A : Type 0} (e : ℕ) (v : Verdict) (f : Program → Action A) (s : State) → v ≡ fronts.refused → judged e v f s ≡ failed e
judged_ill e v f s is = ap (λ (x : Verdict). judged e x f s) is

-- ---- whatever the accounts are

-- a second action that finds no node
pub both_any : {A B C D : Type 0} (p : Action A) (f : A → Action C) (view : B → A) (out : D → C) (b : B) (x y z : RunState) (r : Result D Stop)
    → FindsAndCarriesOut view p x y (Ok b) → CarriesOut out (f (view b)) y z r → FindsAndCarriesOut out (p >>= f) x z r
both_any p f view out b x y z r first second w ready = then out p f (view b) (state_over w x) (state_over w y) (state_over w z) r (first w ready) (second w)

-- nothing is done behind an action
pub then_nothing : {A B : Type 0} (p : Action A) (view : B → A) (b : B) (x z : RunState) → FindsAndCarriesOut view p x z (Ok b)
    → (w : List Account) → IsReady w x → (p >> done) (state_over w x) ≡ ok tt (state_over w z)
then_nothing {A = A} p view b x z first w ready = ap (λ (o : Outcome A). bind o (λ _. done)) (first w ready)

-- an action that fails so, or isn't well typed, in this state
pub stops_so : {A B : Type 0} (view : B → A) (p : Action A) (o : Outcome A) (x z : RunState) (why : Stop) → ((w : List Account) → p (state_over w x) ≡ o) → Stops o why
    → FindsAndCarriesOut {B = B} view p x z (Err why)
stops_so view p o x z why is h w ready = stops_same (p (state_over w x)) o why (is w) h

-- what comes to the same in the state before, whatever the labels are
pub alike : {A B : Type 0} (view : B → A) (p q : Action A) (x z : RunState) (r : Result B Stop) → ((w : List Account) → p (state_over w x) ≡ q (state_over w x))
    → FindsAndCarriesOut view q x z r → FindsAndCarriesOut view p x z r
alike view p q x z r is h = find_same view p q x z r (λ w ready. is w) h
