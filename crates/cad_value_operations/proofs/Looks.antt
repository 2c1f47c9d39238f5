-- What is done with what a receiver is now.
use Rattle.std.proofs.Common.{◌≡◌, Bool, true, false, refl, sym, ap, ◌∙◌}
use Rattle.std.proofs.lemmas.Bool.{false≢true}
use Rattle.std.specs.Prelude.{Result, Ok, Err}
use Rattle.cad_outcomes.proofs.Steps.{stops_on, stops_same, then}
use Rattle.cad_outcomes.specs.Outcomes.{Does, Stops}
use Rattle.cad_outcomes.specs.declared.stop.Stop.{Stop}
use Rattle.cad_outcomes.specs.declared.stop.Stop.TheVariants.{Failed, Limit, IllTyped, Memory}
use Rattle.cad_state.specs.Views.{state_over, FindsAndCarriesOut}
use Rattle.cad_state.specs.declared.state.RunState.{RunState}
use Rattle.cad_world.specs.State.{State, Outcome, ok, failed, limit, ill, bind, Action, ◌>>=◌, give}

-- what comes to the same as another action in another state
pub does_from : {A B : Type 0} (view : B → A) (p q : Action A) (s t u : State) (r : Result B Stop) → p s ≡ q t → Does view q t u r → Does view p s u r
does_from view p q s t u (Ok b) e h = e ∙ h
does_from view p q s t u (Err stop) e h = stops_same (p s) (q t) stop e h

abbrev is_given : {A : Type 0} → Outcome A → Bool
is_given (ok a s) = true
is_given (failed e) = false
is_given limit = false
is_given ill = false

-- an outcome without a value, as one of another type
abbrev fails : {A B : Type 0} → Outcome A → Outcome B
fails (ok a s) = ill
fails (failed e) = failed e
fails limit = limit
fails ill = ill

stops_so : {A : Type 0} (B : Type 0) (r : Outcome A) (stop : Stop) → Stops r stop → Stops (fails {B = B} r) stop
stops_so {A = A} B r (Failed x) h = ap (λ (o : Outcome A). fails {B = B} o) h
stops_so {A = A} B r Limit h = ap (λ (o : Outcome A). fails {B = B} o) h
stops_so {A = A} B r IllTyped h = ap (λ (o : Outcome A). fails {B = B} o) h
stops_so B r Memory h = tt

-- what stops before something of it is told
pub stops_untold : {A B C : Type 0} (r : Outcome A) (w : A → C) (f : A → Action B) (stop : Stop) → Stops (bind r (λ a. give (w a))) stop → Stops (bind r (λ a. f a)) stop
stops_untold (ok a s) w f (Failed e) h = absurd (false≢true (sym (ap is_given h)))
stops_untold (ok a s) w f Limit h = absurd (false≢true (sym (ap is_given h)))
stops_untold (ok a s) w f IllTyped h = absurd (false≢true (sym (ap is_given h)))
stops_untold (ok a s) w f Memory h = tt
stops_untold {A = A} {C = C} (failed e) w f stop h = stops_on (failed e) f stop (stops_so {A = C} A (failed e) stop h)
stops_untold {A = A} {C = C} limit w f stop h = stops_on limit f stop (stops_so {A = C} A limit stop h)
stops_untold {A = A} {C = C} ill w f stop h = stops_on ill f stop (stops_so {A = C} A ill stop h)

-- what is done with what was looked at
pub looked_then : {A B C D : Type 0} (seen : B → A) (view : D → C) (look : Action A) (f : A → Action C) (b : B) (x z : RunState) (r : Result D Stop)
    → FindsAndCarriesOut seen look x x (Ok b) → FindsAndCarriesOut view (f (seen b)) x z r → FindsAndCarriesOut view (look >>= f) x z r
looked_then seen view look f b x z r first second w ready =
    then view look f (seen b) (state_over w x) (state_over w x) (state_over w z) r (first w ready) (second w ready)

pub looked_stops : {A B C D : Type 0} (seen : B → A) (view : D → C) (look : Action A) (f : A → Action C) (x z : RunState) (stop : Stop)
    → FindsAndCarriesOut seen look x x (Err stop) → FindsAndCarriesOut view (look >>= f) x z (Err stop)
looked_stops seen view look f x z stop first w ready = stops_on (look (state_over w x)) f stop (first w ready)

-- what is done alike with whatever is looked at
alike_in : {A B : Type 0} (f g : A → Action B) → ((a : A) (s : State) → f a s ≡ g a s) → (o : Outcome A) → bind o (λ a. f a) ≡ bind o (λ a. g a)
alike_in f g e (ok a s) = e a s
alike_in f g e (failed x) = refl
alike_in f g e limit = refl
alike_in f g e ill = refl

pub looked_alike : {A B C : Type 0} (view : C → B) (look : Action A) (f g : A → Action B) (x z : RunState) (r : Result C Stop) → ((a : A) (s : State) → f a s ≡ g a s)
    → FindsAndCarriesOut view (look >>= g) x z r → FindsAndCarriesOut view (look >>= f) x z r
looked_alike view look f g x z r e h w ready =
    does_from view (look >>= f) (look >>= g) (state_over w x) (state_over w x) (state_over w z) r (alike_in f g e (look (state_over w x))) (h w ready)
