-- Actions one behind the other, where the first leaves the state as it is.
use Rattle.std.proofs.Common.{◌≡◌, Option, Some, None, Result, Ok, Err, option_map, refl, ap, subst, ◌∙◌}
use Rattle.cad_outcomes.specs.declared.stop.Stop.{Stop}
use Rattle.cad_outcomes.specs.Outcomes.{Does, Gives}
use Rattle.cad_outcomes.proofs.Steps.{then, stops_on, stops_same, does_same}
use Rattle.cad_world.specs.State.{State, Outcome, ok, failed, limit, ill, bind, Action, ◌>>=◌}
use Rattle.cad_state.proofs.Finding.{find_same}
use Rattle.cad_state.specs.Views.{state_over, FindsAndCarriesOut}
use Rattle.cad_state.specs.declared.state.RunState.{RunState}
use Rattle.cad_standing.specs.Code.Plans.{Plans, PlansAnywhere}

pub bind_bind : {A B C : Type 0} (o : Outcome A) (f : A → Action B) (g : B → Action C) → bind (bind o f) g ≡ bind o (λ a. f a >>= g)
bind_bind (ok a s) f g = refl
bind_bind (failed n) f g = refl
bind_bind limit f g = refl
bind_bind ill f g = refl

pub bind_same : {A B : Type 0} (o : Outcome A) (f g : A → Action B) → ((a : A) (s : State) → f a s ≡ g a s) → bind o f ≡ bind o g
bind_same (ok a s) f g h = h a s
bind_same (failed n) f g h = refl
bind_same limit f g h = refl
bind_same ill f g h = refl

-- ---- the first gives a value in the state that there is

pub here_then : {A B C D : Type 0} (view : B → A) (out : D → C) (p : Action A) (f : A → Action C) (b : B) (x y : RunState) (r : Result D Stop)
    → FindsAndCarriesOut view p x x (Ok b) → FindsAndCarriesOut out (f (view b)) x y r → FindsAndCarriesOut out (p >>= f) x y r
here_then view out p f b x y r first second w ready =
    then out p f (view b) (state_over w x) (state_over w x) (state_over w y) r (first w ready) (second w ready)

pub here_twice : {A B C D E : Type 0} (view : B → A) (out : D → C) (p : Action A) (f : A → Action E) (g : E → Action C) (b : B) (x y : RunState) (r : Result D Stop)
    → FindsAndCarriesOut view p x x (Ok b) → FindsAndCarriesOut out (f (view b) >>= g) x y r → FindsAndCarriesOut out (p >>= f >>= g) x y r
here_twice view out p f g b x y r first second w ready =
    does_same out (p >>= f >>= g) (f (view b) >>= g) (state_over w x) (state_over w y) r
    (ap (λ (o : Outcome _). bind (bind o f) g) (first w ready)) (second w ready)

pub stopped_twice : {A B C D E : Type 0} (view : B → A) (out : D → C) (p : Action A) (f : A → Action E) (g : E → Action C) (x y : RunState) (stop : Stop)
    → FindsAndCarriesOut view p x x (Err stop) → FindsAndCarriesOut out (p >>= f >>= g) x y (Err stop)
stopped_twice view out p f g x y stop first w ready =
    stops_on (bind (p (state_over w x)) f) g stop (stops_on (p (state_over w x)) f stop (first w ready))

-- ---- plans

pub plan_then : {A B D : Type 0} (follow : B → Action A) (out : D → A) (p : Action A) (b : B) (x y : RunState) (r : Result D Stop)
    → Plans follow p x (Ok b) → FindsAndCarriesOut out (follow b) x y r → FindsAndCarriesOut out p x y r
plan_then follow out p b x y r plan second = find_same out p (follow b) x y r plan second

pub plan_read : {A B C D : Type 0} (view : B → A) (follow : D → Action C) (p : Action A) (f : A → Action C) (b : B) (x : RunState) (r : Result D Stop)
    → FindsAndCarriesOut view p x x (Ok b) → PlansAnywhere follow (f (view b)) r → Plans follow (p >>= f) x r
plan_read view follow p f b x (Ok d) first plan = λ w ready. ap (λ (o : Outcome _). bind o f) (first w ready) ∙ plan (state_over w x)
plan_read view follow p f b x (Err stop) first plan = λ w ready.
    stops_same (bind (p (state_over w x)) f) (f (view b) (state_over w x)) stop (ap (λ (o : Outcome _). bind o f) (first w ready)) (plan (state_over w x))

pub plan_read_twice : {A B C D E : Type 0} (view : B → A) (follow : D → Action C) (p : Action A) (f : A → Action E) (g : E → Action C) (b : B) (x : RunState) (r : Result D Stop)
    → FindsAndCarriesOut view p x x (Ok b) → PlansAnywhere follow (f (view b) >>= g) r → Plans follow (p >>= f >>= g) x r
plan_read_twice view follow p f g b x (Ok d) first plan = λ w ready. ap (λ (o : Outcome _). bind (bind o f) g) (first w ready) ∙ plan (state_over w x)
plan_read_twice view follow p f g b x (Err stop) first plan = λ w ready.
    stops_same (bind (bind (p (state_over w x)) f) g) ((f (view b) >>= g) (state_over w x)) stop (ap (λ (o : Outcome _). bind (bind o f) g) (first w ready)) (plan (state_over w x))

-- ---- where a value is lent

pub seen_then : {A B C D : Type 0} (view : B → A) (out : D → C) (p : Action (Option A)) (f : Option A → Action C) (o : Option B) (b : B) (x y : RunState) (r : Result D Stop)
    → FindsAndCarriesOut (option_map view) p x x (Ok o) → o ≡ Some b → FindsAndCarriesOut out (f (Some (view b))) x y r → FindsAndCarriesOut out (p >>= f) x y r
seen_then view out p f o b x y r first e second =
    here_then (option_map view) out p f (Some b) x y r (subst (λ (q : Option _). FindsAndCarriesOut (option_map view) p x x (Ok q)) e first) second

pub seen_plan : {A B C D : Type 0} (view : B → A) (follow : D → Action C) (p : Action (Option A)) (f : Option A → Action C) (o : Option B) (b : B) (x : RunState) (r : Result D Stop)
    → FindsAndCarriesOut (option_map view) p x x (Ok o) → o ≡ Some b → PlansAnywhere follow (f (Some (view b))) r → Plans follow (p >>= f) x r
seen_plan view follow p f o b x r first e plan =
    plan_read (option_map view) follow p f (Some b) x r (subst (λ (q : Option _). FindsAndCarriesOut (option_map view) p x x (Ok q)) e first) plan

pub none_plan : {A B C D : Type 0} (view : B → A) (follow : D → Action C) (p : Action (Option A)) (f : Option A → Action C) (o : Option B) (x : RunState) (r : Result D Stop)
    → FindsAndCarriesOut (option_map view) p x x (Ok o) → o ≡ None → PlansAnywhere follow (f None) r → Plans follow (p >>= f) x r
none_plan view follow p f o x r first e plan =
    plan_read (option_map view) follow p f None x r (subst (λ (q : Option _). FindsAndCarriesOut (option_map view) p x x (Ok q)) e first) plan

pub seen_plan_twice : {A B C D E : Type 0} (view : B → A) (follow : D → Action C) (p : Action (Option A)) (f : Option A → Action E) (g : E → Action C) (o : Option B) (b : B) (x : RunState) (r : Result D Stop)
    → FindsAndCarriesOut (option_map view) p x x (Ok o) → o ≡ Some b → PlansAnywhere follow (f (Some (view b)) >>= g) r → Plans follow (p >>= f >>= g) x r
seen_plan_twice view follow p f g o b x r first e plan =
    plan_read_twice (option_map view) follow p f g (Some b) x r (subst (λ (q : Option _). FindsAndCarriesOut (option_map view) p x x (Ok q)) e first) plan

-- ---- in one state

pub then_twice : {A B C D : Type 0} (view : D → C) (p : Action A) (f : A → Action B) (g : B → Action C) (a : A) (s t u : State) (r : Result D Stop)
    → p s ≡ ok a t → Does view (f a >>= g) t u r → Does view (p >>= f >>= g) s u r
then_twice view p f g a s t u (Ok d) first second = ap (λ (o : Outcome _). bind (bind o f) g) first ∙ second
then_twice view p f g a s t u (Err stop) first second =
    stops_same (bind (bind (p s) f) g) ((f a >>= g) t) stop (ap (λ (o : Outcome _). bind (bind o f) g) first) second

pub gives_same : {A B : Type 0} (view : B → A) (p q : Action A) (r : Result B Stop) → ((s : State) → p s ≡ q s) → Gives view q r → Gives view p r
gives_same view p q (Ok b) e h = λ s. e s ∙ h s
gives_same view p q (Err stop) e h = λ s. stops_same (p s) (q s) stop (e s) (h s)
