-- Actions one behind the other.
use Rattle.std.proofs.Common.{◌≡◌, refl, sym, ◌∙◌, ap, subst}
use Rattle.std.specs.Prelude.{Result, Ok, Err}
use Rattle.cad_world.specs.State.{State, Outcome, ok, failed, limit, ill, bind, Action, ◌>>=◌}
use Rattle.cad_outcomes.specs.declared.stop.Stop.{Stop}
use Rattle.cad_outcomes.specs.declared.stop.Stop.TheVariants.{Failed, Limit, IllTyped, Memory}
use Rattle.cad_outcomes.specs.Outcomes.{Stops, Does, Gives}

-- what stops the first action stops both
pub stops_on : {A B : Type 0} (r : Outcome A) (f : A → Action B) (stop : Stop) → Stops r stop → Stops (bind r f) stop
stops_on r f (Failed error) h = ap (λ x. bind x f) h
stops_on r f Limit h = ap (λ x. bind x f) h
stops_on r f IllTyped h = ap (λ x. bind x f) h
stops_on r f Memory h = tt

pub stops_same : {A : Type 0} (r q : Outcome A) (stop : Stop) → r ≡ q → Stops q stop → Stops r stop
stops_same {A = A} r q stop e h = subst (λ (x : Outcome A). Stops x stop) (sym e) h

-- the first action gave its value; the second does what is left
pub then : {A B C : Type 0} (view : C → B) (p : Action A) (f : A → Action B) (a : A) (s t u : State) (r : Result C Stop)
    → p s ≡ ok a t → Does view (f a) t u r → Does view (p >>= f) s u r
then view p f a s t u (Ok c) first second = ap (λ x. bind x f) first ∙ second
then view p f a s t u (Err stop) first second = stops_same (bind (p s) f) (f a t) stop (ap (λ x. bind x f) first) second

-- it stopped
pub stopped : {A B C : Type 0} (view : C → B) (p : Action A) (f : A → Action B) (s u : State) (stop : Stop) → Stops (p s) stop → Does {B = C} view (p >>= f) s u (Err stop)
stopped view p f s u stop h = stops_on (p s) f stop h

-- what leaves every state as it is leaves this one so
pub gives_here : {A B : Type 0} (view : B → A) (p : Action A) (r : Result B Stop) (s : State) → Gives view p r → Does view p s s r
gives_here view p (Ok b) s h = h s
gives_here view p (Err stop) s h = h s

-- what comes to the same is carried out by the same calls
pub does_same : {A B : Type 0} (view : B → A) (p q : Action A) (s t : State) (r : Result B Stop) → p s ≡ q s → Does view q s t r → Does view p s t r
does_same view p q s t (Ok b) e h = e ∙ h
does_same view p q s t (Err stop) e h = stops_same (p s) (q s) stop e h
