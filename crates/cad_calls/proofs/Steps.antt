-- Actions one behind the other, as calls carry them out.
use Rattle.std.proofs.Common.{ap}
use Rattle.std.specs.Prelude.{List, Result, Ok, Err}
use Rattle.cad_labels.specs.Laws.{Keeps}
use Rattle.cad_outcomes.proofs.Steps.{then, stops_on, gives_here}
use Rattle.cad_outcomes.specs.Outcomes.{Stops, Gives, no_value}
use Rattle.cad_outcomes.specs.declared.stop.Stop.{Stop}
use Rattle.cad_state.proofs.Finding.{find_then}
use Rattle.cad_state.specs.Views.{state_over, IsReady, CarriesOut, FindsAndCarriesOut}
use Rattle.cad_state.specs.declared.state.RunState.{RunState}
use Rattle.cad_world.specs.State.{Account, Outcome, bind, Action, ◌>>=◌, ◌>>◌, done}

-- why an action gives no value
abbrev pub Fails : {A : Type 0} → Action A → RunState → Stop → Type 0
Fails p x stop = (w : List Account) → IsReady w x → Stops (p (state_over w x)) stop

abbrev pub FailsAnyhow : {A : Type 0} → Action A → RunState → Stop → Type 0
FailsAnyhow p x stop = (w : List Account) → Stops (p (state_over w x)) stop

-- the second is carried out behind the first
pub both : {A B C D : Type 0} (P : A → Type 0) (p : Action A) (f : A → Action C) (view : B → A) (out : D → C) (b : B) (x y z : RunState) (r : Result D Stop)
    → Keeps P p → FindsAndCarriesOut view p x y (Ok b) → FindsAndCarriesOut out (f (view b)) y z r → FindsAndCarriesOut out (p >>= f) x z r
both P p f view out b x y z r keeps first second = find_then P p keeps view out f b x y z r first (λ h. second)

-- a second one that finds no node
pub both_any : {A B C D : Type 0} (p : Action A) (f : A → Action C) (view : B → A) (out : D → C) (b : B) (x y z : RunState) (r : Result D Stop)
    → FindsAndCarriesOut view p x y (Ok b) → CarriesOut out (f (view b)) y z r → FindsAndCarriesOut out (p >>= f) x z r
both_any p f view out b x y z r first second w ready = then out p f (view b) (state_over w x) (state_over w y) (state_over w z) r (first w ready) (second w)

-- a second one that leaves every state as it is
pub both_given : {A B C D : Type 0} (p : Action A) (f : A → Action C) (view : B → A) (out : D → C) (b : B) (x y : RunState) (r : Result D Stop)
    → FindsAndCarriesOut view p x y (Ok b) → Gives out (f (view b)) r → FindsAndCarriesOut out (p >>= f) x y r
both_given p f view out b x y r first second = both_any p f view out b x y y r first (λ w. gives_here out (f (view b)) r (state_over w y) second)

-- the first stops
pub stops : {A C : Type 0} (p : Action A) (f : A → Action C) (x : RunState) (stop : Stop) → Fails p x stop → Fails (p >>= f) x stop
stops p f x stop h w ready = stops_on (p (state_over w x)) f stop (h w ready)

-- the same of actions of no node
pub any_then : {A B C D : Type 0} (p : Action A) (f : A → Action C) (view : B → A) (out : D → C) (b : B) (x y z : RunState) (r : Result D Stop)
    → CarriesOut view p x y (Ok b) → CarriesOut out (f (view b)) y z r → CarriesOut out (p >>= f) x z r
any_then p f view out b x y z r first second w = then out p f (view b) (state_over w x) (state_over w y) (state_over w z) r (first w) (second w)

pub any_stops : {A C : Type 0} (p : Action A) (f : A → Action C) (x : RunState) (stop : Stop) → FailsAnyhow p x stop → FailsAnyhow (p >>= f) x stop
any_stops p f x stop h w = stops_on (p (state_over w x)) f stop (h w)

-- nothing is done behind an action
pub then_done : (p : Action (Unit {0})) (x z : RunState) (r : Result (Unit {0}) Stop) → FindsAndCarriesOut no_value p x z r → FindsAndCarriesOut no_value (p >> done) x z r
then_done p x z (Ok u) first w ready = ap (λ (o : Outcome (Unit {0})). bind o (λ _. done)) (first w ready)
then_done p x z (Err stop) first w ready = stops_on (p (state_over w x)) (λ _. done) stop (first w ready)
