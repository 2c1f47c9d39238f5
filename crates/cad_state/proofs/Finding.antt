-- Actions one behind the other, where nodes are found by their labels: what the first keeps is what the second asks for.
use Rattle.std.proofs.Common.{◌≡◌, subst}
use Rattle.std.specs.Prelude.{List, Result, Ok, Err}
use Rattle.cad_labels.specs.Laws.{Keeps, Gives}
use Rattle.cad_outcomes.specs.declared.stop.Stop.{Stop}
use Rattle.cad_outcomes.specs.Outcomes as o
use Rattle.cad_outcomes.proofs.Steps.{then, stopped, does_same, gives_here}
use Rattle.cad_world.specs.State.{State, Account, Outcome, ok, Action, ◌>>=◌}
use Rattle.cad_state.specs.Views.{state_over, IsReady, CarriesOut, FindsAndCarriesOut}
use Rattle.cad_state.specs.declared.state.RunState.{RunState}

-- what an action keeps that gave a value
gives_so : {A : Type 0} (P : A → Type 0) (s t : State) (r : Outcome A) (a : A) → r ≡ ok a t → Gives P s r → Gives P s (ok a t)
gives_so {A = A} P s t r a e h = subst (λ (x : Outcome A). Gives P s x) e h

-- a state behind a ready one is ready, and the value is so
pub ready_behind : {A : Type 0} (P : A → Type 0) (p : Action A) (keeps : Keeps P p) (w : List Account) (x y : RunState) (a : A)
    → IsReady w x → p (state_over w x) ≡ ok a (state_over w y) → P a × IsReady w y
ready_behind P p keeps w x y a ready e =
    let kept = gives_so P (state_over w x) (state_over w y) (p (state_over w x)) a e (keeps (state_over w x) ready.once) in
    (kept.0, record { unnamed = ready.unnamed; once = kept.1.0 })

-- the first action gave its value; the second does what is left
pub find_then : {A B C D : Type 0} (P : A → Type 0) (p : Action A) (keeps : Keeps P p) (view : B → A) (out : D → C) (f : A → Action C)
    (b : B) (x y z : RunState) (r : Result D Stop)
    → FindsAndCarriesOut view p x y (Ok b) → (P (view b) → FindsAndCarriesOut out (f (view b)) y z r) → FindsAndCarriesOut out (p >>= f) x z r
find_then P p keeps view out f b x y z r first second w ready =
    let behind = ready_behind P p keeps w x y (view b) ready (first w ready) in
    then out p f (view b) (state_over w x) (state_over w y) (state_over w z) r (first w ready) (second behind.0 w behind.1)

-- it stopped
pub find_stopped : {A B C D : Type 0} (view : B → A) (out : D → C) (p : Action A) (f : A → Action C) (x y z : RunState) (stop : Stop)
    → FindsAndCarriesOut view p x y (Err stop) → FindsAndCarriesOut out (p >>= f) x z (Err stop)
find_stopped view out p f x y z stop first w ready = stopped out p f (state_over w x) (state_over w z) stop (first w ready)

-- what is carried out whatever the labels are
pub find_any : {A B : Type 0} (view : B → A) (p : Action A) (x y : RunState) (r : Result B Stop) → CarriesOut view p x y r → FindsAndCarriesOut view p x y r
find_any view p x y r h w ready = h w

-- what leaves every state as it is
pub find_given : {A B : Type 0} (view : B → A) (p : Action A) (x : RunState) (r : Result B Stop) → o.Gives view p r → FindsAndCarriesOut view p x x r
find_given view p x r h w ready = gives_here view p r (state_over w x) h

-- what comes to the same in the state before
pub find_same : {A B : Type 0} (view : B → A) (p q : Action A) (x y : RunState) (r : Result B Stop)
    → ((w : List Account) → IsReady w x → p (state_over w x) ≡ q (state_over w x)) → FindsAndCarriesOut view q x y r → FindsAndCarriesOut view p x y r
find_same view p q x y r e h w ready = does_same view p q (state_over w x) (state_over w y) r (e w ready) (h w ready)
