-- What is told of what a receiver is, and then done with that.
use Rattle.std.proofs.Common.{◌≡◌, Bool, true, false, List, Option, Some, None, refl, sym, subst, ap, ◌∙◌}
use Rattle.std.proofs.lemmas.Bool.{false≢true}
use Rattle.std.specs.Prelude.{Result, Ok, Err}
use Rattle.cad_outcomes.proofs.Steps.{then, stops_on, stops_same}
use Rattle.cad_outcomes.specs.Outcomes.{Does, Stops}
use Rattle.cad_outcomes.specs.declared.stop.Stop.{Stop}
use Rattle.cad_outcomes.specs.declared.stop.Stop.TheVariants.{Failed, Limit, IllTyped, Memory}
use Rattle.cad_state.proofs.Finding.{find_same}
use Rattle.cad_state.specs.Views.{state_over, IsReady, FindsAndCarriesOut}
use Rattle.cad_state.specs.declared.state.RunState.{RunState}
use Rattle.cad_world.specs.State.{State, Account, Outcome, ok, failed, limit, ill, bind, Action, ◌>>=◌, give, stuck, with_some}

-- something is told of what was looked at
abbrev pub told : {A B : Type 0} → Action A → (A → Option B) → Action B
told look tell = look >>= (λ a. with_some (tell a) give)

abbrev is_given : {A : Type 0} → Outcome A → Bool
is_given (ok a s) = true
is_given _ = false

abbrev value_in : {A : Type 0} → A → Outcome A → A
value_in b (ok a s) = a
value_in b _ = b

abbrev state_in : {A : Type 0} → State → Outcome A → State
state_in t (ok a s) = s
state_in t _ = t

-- what was looked at, in the state in which it was, and of which this was told
record WasLooked {A B : Type 0} (tell : A → Option B) (o : Outcome A) (b : B) (s : State) : Type 0 where
  seen : A
  is : o ≡ ok seen s
  tells : tell seen ≡ Some b

some_told : {A B : Type 0} (tell : A → Option B) (a : A) (x : Option B) (b : B) (t s : State) → tell a ≡ x → with_some x give t ≡ ok b s → WasLooked tell (ok a t) b s
some_told tell a (Some c) b t s e h = record { seen = a; is = ap (λ u. ok a u) (ap (state_in t) h); tells = e ∙ ap Some (ap (value_in c) h) }
some_told tell a None b t s e h = absurd (false≢true (ap is_given h))

was_looked : {A B : Type 0} (tell : A → Option B) (o : Outcome A) (b : B) (s : State) → bind o (λ a. with_some (tell a) give) ≡ ok b s → WasLooked tell o b s
was_looked tell (ok a t) b s h = some_told tell a (tell a) b t s refl h
was_looked tell (failed e) b s h = absurd (false≢true (ap is_given h))
was_looked tell limit b s h = absurd (false≢true (ap is_given h))
was_looked tell ill b s h = absurd (false≢true (ap is_given h))

-- what is done with whatever tells this
pub told_then : {A B C D E : Type 0} (seen : E → B) (view : D → C) (look : Action A) (tell : A → Option B) (f : A → Action C) (b : E) (x z : RunState) (r : Result D Stop)
    → FindsAndCarriesOut seen (told look tell) x x (Ok b) → ((a : A) → tell a ≡ Some (seen b) → FindsAndCarriesOut view (f a) x z r) → FindsAndCarriesOut view (look >>= f) x z r
told_then seen view look tell f b x z r first second w ready =
    let h = was_looked tell (look (state_over w x)) (seen b) (state_over w x) (first w ready) in
    then view look f h.seen (state_over w x) (state_over w x) (state_over w z) r h.is (second h.seen h.tells w ready)

-- what stops before anything is told stops so, and nothing is done where nothing is told
none_told : {A B C : Type 0} (tell : A → Option B) (f : A → Action C) (a : A) (x : Option B) (t : State) (why : Stop) → tell a ≡ x
    → ((v : State) → tell a ≡ None → f a v ≡ ill) → Stops (with_some x give t) why → Stops (f a t) why
none_told tell f a (Some b) t (Failed e) is h stops = absurd (false≢true (sym (ap is_given stops)))
none_told tell f a (Some b) t Limit is h stops = absurd (false≢true (sym (ap is_given stops)))
none_told tell f a (Some b) t IllTyped is h stops = absurd (false≢true (sym (ap is_given stops)))
none_told tell f a (Some b) t Memory is h stops = tt
none_told tell f a None t why is h stops = stops_same (f a t) ill why (h t is) (stops_on ill (λ _. stuck) why stops)

stops_too : {A B C : Type 0} (tell : A → Option B) (f : A → Action C) (o : Outcome A) (why : Stop) → ((a : A) (v : State) → tell a ≡ None → f a v ≡ ill)
    → Stops (bind o (λ a. with_some (tell a) give)) why → Stops (bind o (λ a. f a)) why
stops_too tell f (ok a t) why h stops = none_told tell f a (tell a) t why refl (h a) stops
stops_too {B = B} tell f (failed e) why h stops = stops_on {A = B} (failed e) (λ _. stuck) why stops
stops_too {B = B} tell f limit why h stops = stops_on {A = B} limit (λ _. stuck) why stops
stops_too {B = B} tell f ill why h stops = stops_on {A = B} ill (λ _. stuck) why stops

pub told_stops : {A B C D E : Type 0} (seen : E → B) (view : D → C) (look : Action A) (tell : A → Option B) (f : A → Action C) (x z : RunState) (why : Stop)
    → FindsAndCarriesOut seen (told look tell) x x (Err why) → ((a : A) (s : State) → tell a ≡ None → f a s ≡ ill) → FindsAndCarriesOut view (look >>= f) x z (Err why)
told_stops seen view look tell f x z why first h w ready = stops_too tell f (look (state_over w x)) why h (first w ready)

-- ---- what is done with what was told, and nothing else

-- what comes to the same in this state
some_does : {B C D : Type 0} (view : D → C) (o : Option B) (b : B) (f : B → Action C) (x z : RunState) (r : Result D Stop) → o ≡ Some b
    → FindsAndCarriesOut view (f b) x z r → FindsAndCarriesOut view (with_some o f) x z r
some_does {B = B} view o b f x z r e h = subst (λ (p : Option B). FindsAndCarriesOut view (with_some p f) x z r) (sym e) h

none_ill : {B C : Type 0} (o : Option B) (f : B → Action C) (s : State) → o ≡ None → with_some o f s ≡ ill
none_ill {B = B} o f s e = ap (λ (p : Option B). with_some p f s) e

pub with_told : {A B C D E : Type 0} (seen : E → B) (view : D → C) (look : Action A) (tell : A → Option B) (f : B → Action C) (b : E) (x z : RunState) (r : Result D Stop)
    → FindsAndCarriesOut seen (told look tell) x x (Ok b) → FindsAndCarriesOut view (f (seen b)) x z r → FindsAndCarriesOut view (look >>= (λ a. with_some (tell a) f)) x z r
with_told seen view look tell f b x z r first second =
    told_then seen view look tell (λ a. with_some (tell a) f) b x z r first (λ a is. some_does view (tell a) (seen b) f x z r is second)

pub with_none_told : {A B C D E : Type 0} (seen : E → B) (view : D → C) (look : Action A) (tell : A → Option B) (f : B → Action C) (x z : RunState) (why : Stop)
    → FindsAndCarriesOut seen (told look tell) x x (Err why) → FindsAndCarriesOut view (look >>= (λ a. with_some (tell a) f)) x z (Err why)
with_none_told seen view look tell f x z why first = told_stops seen view look tell (λ a. with_some (tell a) f) x z why first (λ a s is. none_ill (tell a) f s is)

-- ---- what is done alike with whatever is looked at

alike_in : {A B : Type 0} (f g : A → Action B) → ((a : A) (s : State) → f a s ≡ g a s) → (o : Outcome A) → bind o (λ a. f a) ≡ bind o (λ a. g a)
alike_in f g e (ok a s) = e a s
alike_in f g e (failed x) = refl
alike_in f g e limit = refl
alike_in f g e ill = refl

pub looked_alike : {A B C : Type 0} (view : C → B) (look : Action A) (f g : A → Action B) (x z : RunState) (r : Result C Stop) → ((a : A) (s : State) → f a s ≡ g a s)
    → FindsAndCarriesOut view (look >>= g) x z r → FindsAndCarriesOut view (look >>= f) x z r
looked_alike view look f g x z r e h = find_same view (look >>= f) (look >>= g) x z r (λ w ready. alike_in f g e (look (state_over w x))) h
