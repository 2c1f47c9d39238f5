-- What goes on from what an action came to.
use Rattle.std.proofs.Common.{◌≡◌, ap, refl, subst, sym, Result, Ok, Err}
use Rattle.cad_labels.specs.Laws.{Keeps}
use Rattle.cad_outcomes.specs.Outcomes as o
use Rattle.cad_outcomes.specs.declared.stop.Stop.{Stop}
use Rattle.cad_outcomes.specs.declared.stop.Stop.TheVariants.{Memory}
use Rattle.cad_world.specs.State.{State, Outcome, ok, failed, limit, ill, bind, Action, ◌>>=◌, give}
use Rattle.cad_outcomes.proofs.Steps.{then, stopped}
use Rattle.cad_state.specs.Views.{state_over, CarriesOut, FindsAndCarriesOut}
use Rattle.cad_state.specs.declared.state.RunState.{RunState}
use Rattle.cad_state.proofs.Finding.{find_then, find_stopped, find_any, find_given, find_same}
use Rattle.cad_expression_leaves.specs.Code.Steps.{GoesOn}

-- it gave its value, which is as P says, and the rest is carried out
pub goes_with : {A B C D : Type 0} (P : A → Type 0) (view : B → A) (out : D → C) (f : A → Action C) (r : Result B Stop) (b : B) (y z : RunState) (result : Result D Stop)
    → r ≡ Ok b → (P (view b) → FindsAndCarriesOut out (f (view b)) y z result) → GoesOn P view out f r y z result
goes_with {A = A} {B = B} P view out f r b y z result is rest = subst (λ (q : Result B Stop). GoesOn P view out f q y z result) (sym is)
    (record { goes = λ x p keeps first. find_then P p keeps view out f b x y z result first rest })

pub goes_on : {A B C D : Type 0} (P : A → Type 0) (view : B → A) (out : D → C) (f : A → Action C) (r : Result B Stop) (b : B) (y z : RunState) (result : Result D Stop)
    → r ≡ Ok b → FindsAndCarriesOut out (f (view b)) y z result → GoesOn P view out f r y z result
goes_on P view out f r b y z result is rest = goes_with P view out f r b y z result is (λ h. rest)

pub goes_any : {A B C D : Type 0} (P : A → Type 0) (view : B → A) (out : D → C) (f : A → Action C) (r : Result B Stop) (b : B) (y z : RunState) (result : Result D Stop)
    → r ≡ Ok b → CarriesOut out (f (view b)) y z result → GoesOn P view out f r y z result
goes_any P view out f r b y z result is rest = goes_with P view out f r b y z result is (λ h. find_any out (f (view b)) y z result rest)

pub goes_given : {A B C D : Type 0} (P : A → Type 0) (view : B → A) (out : D → C) (f : A → Action C) (r : Result B Stop) (b : B) (y : RunState) (result : Result D Stop)
    → r ≡ Ok b → o.Gives out (f (view b)) result → GoesOn P view out f r y y result
goes_given P view out f r b y result is rest = goes_with P view out f r b y y result is (λ h. find_given out (f (view b)) y result rest)

-- it stopped
pub goes_stopped : {A B C D : Type 0} (P : A → Type 0) (view : B → A) (out : D → C) (f : A → Action C) (r : Result B Stop) (stop : Stop) (y z : RunState)
    → r ≡ Err stop → GoesOn {D = D} P view out f r y z (Err stop)
goes_stopped {A = A} {B = B} {D = D} P view out f r stop y z is = subst (λ (q : Result B Stop). GoesOn {D = D} P view out f q y z (Err stop)) (sym is)
    (record { goes = λ x p keeps first. find_stopped view out p f x y z stop first })

-- the whole is the part and what goes on from it
pub whole : {A B C D : Type 0} (P : A → Type 0) (view : B → A) (out : D → C) (p : Action A) (f : A → Action C) (q : Action C) (r : Result B Stop) (x y z : RunState) (result : Result D Stop)
    → ((s : State) → q s ≡ (p >>= f) s) → Keeps P p → GoesOn P view out f r y z result → FindsAndCarriesOut view p x y r → FindsAndCarriesOut out q x z result
whole P view out p f q r x y z result same keeps goes first = find_same out q (p >>= f) x z result (λ w ready. same (state_over w x)) (goes.goes x p keeps first)

-- what goes on by two steps goes on by the first, and then by the second
pub goes_twice : {A B C D E F : Type 0} (P : A → Type 0) (Q : C → Type 0) (view : B → A) (mid : D → C) (out : F → E) (f : A → Action C) (g : C → Action E) (h : A → Action E)
    (r : Result B Stop) (x' : Result D Stop) (y z v : RunState) (result : Result F Stop)
    → ((p : Action A) → Keeps P p → Keeps Q (p >>= f)) → ((p : Action A) (s : State) → (p >>= h) s ≡ ((p >>= f) >>= g) s)
    → GoesOn P view mid f r y z x' → GoesOn Q mid out g x' z v result → GoesOn P view out h r y v result
goes_twice P Q view mid out f g h r x' y z v result keeps same first second = record {
  goes = λ x p keep start. find_same out (p >>= h) ((p >>= f) >>= g) x v result (λ w ready. same p (state_over w x)) (second.goes x (p >>= f) (keeps p keep) (first.goes x p keep start));
}

same_behind : {A C : Type 0} (o : Outcome A) (f h : A → Action C) → ((a : A) (s : State) → h a s ≡ f a s) → bind o h ≡ bind o f
same_behind (ok a s) f h same = same a s
same_behind (failed n) f h same = refl
same_behind limit f h same = refl
same_behind ill f h same = refl

-- what does the same goes on the same
pub goes_same : {A B C D : Type 0} (P : A → Type 0) (view : B → A) (out : D → C) (f h : A → Action C) (r : Result B Stop) (y z : RunState) (result : Result D Stop)
    → ((a : A) (s : State) → h a s ≡ f a s) → GoesOn P view out f r y z result → GoesOn P view out h r y z result
goes_same P view out f h r y z result same goes = record {
  goes = λ x p keep first. find_same out (p >>= h) (p >>= f) x z result (λ w ready. same_behind (p (state_over w x)) f h same) (goes.goes x p keep first);
}

-- ---- two steps of one call

-- the first gave its value, and the rest is carried out
pub first_on : {A B C D : Type 0} (P : A → Type 0) (p : Action A) (view : B → A) (out : D → C) (f : A → Action C) (t : Result B Stop) (b : B) (x y z : RunState) (r : Result D Stop)
    → t ≡ Ok b → Keeps P p → FindsAndCarriesOut view p x y t → (P (view b) → FindsAndCarriesOut out (f (view b)) y z r) → FindsAndCarriesOut out (p >>= f) x z r
first_on P p view out f t b x y z r is keeps first rest = (goes_with P view out f t b y z r is rest).goes x p keeps first

-- it stopped
pub first_stopped : {A B C D : Type 0} (p : Action A) (view : B → A) (out : D → C) (f : A → Action C) (t : Result B Stop) (stop : Stop) (x y z : RunState)
    → t ≡ Err stop → FindsAndCarriesOut view p x y t → FindsAndCarriesOut {B = D} out (p >>= f) x z (Err stop)
first_stopped {B = B} p view out f t stop x y z is first =
    find_stopped view out p f x y z stop (subst (λ (q : Result B Stop). FindsAndCarriesOut view p x y q) is first)

-- the same whatever the labels are
pub any_on : {A B C D : Type 0} (p : Action A) (view : B → A) (out : D → C) (f : A → Action C) (t : Result B Stop) (b : B) (x y z : RunState) (r : Result D Stop)
    → t ≡ Ok b → CarriesOut view p x y t → CarriesOut out (f (view b)) y z r → CarriesOut out (p >>= f) x z r
any_on {B = B} p view out f t b x y z r is first rest w =
    then out p f (view b) (state_over w x) (state_over w y) (state_over w z) r (subst (λ (q : Result B Stop). CarriesOut view p x y q) is first w) (rest w)

pub any_stopped : {A B C D : Type 0} (p : Action A) (view : B → A) (out : D → C) (f : A → Action C) (t : Result B Stop) (stop : Stop) (x y z : RunState)
    → t ≡ Err stop → CarriesOut view p x y t → CarriesOut {B = D} out (p >>= f) x z (Err stop)
any_stopped {B = B} p view out f t stop x y z is first w =
    stopped out p f (state_over w x) (state_over w z) stop (subst (λ (q : Result B Stop). CarriesOut view p x y q) is first w)

-- what gives a value and leaves the state
pub gives_value : {C D : Type 0} (out : D → C) (a : C) (d : D) (x : RunState) → out d ≡ a → FindsAndCarriesOut out (give a) x x (Ok d)
gives_value out a d x is w ready = ap (λ v. ok v (state_over w x)) (sym is)

-- want of memory is free
pub goes_memory : {A B C D : Type 0} (P : A → Type 0) (view : B → A) (out : D → C) (f : A → Action C) (r : Result B Stop) (y z : RunState) → GoesOn {D = D} P view out f r y z (Err Memory)
goes_memory P view out f r y z = record { goes = λ x p keeps first w ready. tt }
