-- An action that is carried out in two steps.
use Rattle.std.proofs.Common.{◌≡◌, sym, ap, subst}
use Rattle.std.specs.Prelude.{List, Result}
use Rattle.cad_outcomes.proofs.Steps.{does_same, stops_on, stops_same, then}
use Rattle.cad_outcomes.specs.Outcomes.{Does, Stops}
use Rattle.cad_outcomes.specs.declared.stop.Stop.{Stop}
use Rattle.cad_state.specs.Views.{FindsAndCarriesOut, IsReady, state_over}
use Rattle.cad_state.specs.declared.state.RunState.{RunState}
use Rattle.cad_world.specs.Marks.{AreGivenOnce}
use Rattle.cad_world.specs.Rows.{Slot}
use Rattle.cad_world.specs.State.{State, Account, ok, Action, ◌>>=◌}

-- the first step gave its value, and the second does what is left
pub goes_on : {A B C D : Type 0} (view : B → A) (out : D → C) (m : Action C) (p : Action A) (f : A → Action C) (b : B) (s t u : State) (r : Result D Stop)
    → m s ≡ (p >>= f) s → p s ≡ ok (view b) t → Does out (f (view b)) t u r → Does out m s u r
goes_on view out m p f b s t u r law first second = does_same out m (p >>= f) s u r law (then out p f (view b) s t u r first second)

-- the first step stopped
pub ends : {A C : Type 0} (m : Action C) (p : Action A) (f : A → Action C) (s : State) (stop : Stop) → m s ≡ (p >>= f) s → Stops (p s) stop → Stops (m s) stop
ends m p f s stop law h = stops_same (m s) ((p >>= f) s) stop law (stops_on (p s) f stop h)

-- what is done with the place that was found
pub in_place : {A B : Type 0} (view : B → A) (f : Slot → Action A) (slot place : Slot) (s u : State) (r : Result B Stop) → slot ≡ place → Does view (f slot) s u r → Does view (f place) s u r
in_place view f slot place s u r e h = does_same view (f place) (f slot) s u r (ap (λ (x : Slot). f x s) (sym e)) h

-- what is done in a state that stayed as it was
pub stays_then : {A B : Type 0} (view : B → A) (p : Action A) (x y z : RunState) (r : Result B Stop) → ((w : List Account) → IsReady w x → state_over w y ≡ state_over w x)
    → FindsAndCarriesOut view p y z r → FindsAndCarriesOut view p x z r
stays_then view p x y z r same h w ready =
    let e = same w ready in
    subst (λ (v : State). Does view p v (state_over w z) r) e (h w (record { unnamed = ready.unnamed; once = subst AreGivenOnce (sym e) ready.once }))
