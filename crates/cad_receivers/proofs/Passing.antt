-- What is found out in steps, each of which passes on what it found.
use Rattle.std.proofs.Common.{◌≡◌, Bool, true, false, List, Option, Some, refl, sym, subst, ap, ◌∙◌}
use Rattle.std.proofs.lemmas.Bool.{false≢true}
use Rattle.std.specs.Prelude.{Result, Ok, Err}
use Rattle.cad_labels.specs.Laws.{AnyOne}
use Rattle.cad_outcomes.proofs.Steps.{stops_on, then}
use Rattle.cad_outcomes.specs.Outcomes.{Stops, Does}
use Rattle.cad_outcomes.specs.declared.stop.Stop.{Stop}
use Rattle.cad_outcomes.specs.declared.stop.Stop.TheVariants.{Failed, Limit, IllTyped, Memory}
use Rattle.cad_receivers.proofs.SettledLaws.{settles_to_look, settled_keeps}
use Rattle.cad_receivers.specs.Settled.{settled}
use Rattle.cad_receivers.specs.Views.{settled_of, spot_of, at_spot}
use Rattle.cad_receivers.specs.declared.receivers.Settled.{Settled}
use Rattle.cad_receivers.specs.declared.receivers.Spot.{Spot}
use Rattle.cad_state.proofs.Finding.{find_same, find_then, find_stopped}
use Rattle.cad_state.specs.Views.{state_over, IsReady, FindsAndCarriesOut}
use Rattle.cad_state.specs.declared.state.RunState.{RunState}
use Rattle.cad_world.specs.Marks.{AreGivenOnce}
use Rattle.cad_world.specs.Receivers as r
use Rattle.cad_world.specs.State.{State, Account, Outcome, ok, failed, limit, ill, bind, Action, ◌>>=◌, done, with_some}

-- ---- in one state

pub some_does : {A B C : Type 0} (view : C → B) (o : Option A) (a : A) (f : A → Action B) (s t : State) (q : Result C Stop)
    → Some a ≡ o → Does view (f a) s t q → Does view (with_some o f) s t q
some_does view o a f s t q e h = subst (λ x. Does view (with_some x f) s t q) e h

-- ---- of what a receiver is now

pub look_stops : {B : Type 0} (receiver : r.Receiver) (f : r.Spot → Action B) (x : RunState) (why : Stop)
    → FindsAndCarriesOut {B = Spot} spot_of (r.look_at receiver) x x (Err why) → (w : List Account) → IsReady w x → Stops (at_spot receiver f (state_over w x)) why
look_stops receiver f x why h w ready = stops_on (r.look_at receiver (state_over w x)) f why (h w ready)

-- what is done with it changes nothing
pub looked : {B C : Type 0} (view : C → B) (receiver : r.Receiver) (f : r.Spot → Action B) (spot : Spot) (x : RunState) (q : Result C Stop)
    → FindsAndCarriesOut spot_of (r.look_at receiver) x x (Ok spot) → ((w : List Account) → Does view (f (spot_of spot)) (state_over w x) (state_over w x) q)
    → FindsAndCarriesOut view (at_spot receiver f) x x q
looked view receiver f spot x q first second w ready =
    then view (r.look_at receiver) f (spot_of spot) (state_over w x) (state_over w x) (state_over w x) q (first w ready) (second w)

-- ---- a receiver that was settled

pub ready_same : (w : List Account) (x y : RunState) → state_over w y ≡ state_over w x → IsReady w x → IsReady w y
ready_same w x y e ready = record { unnamed = ready.unnamed; once = subst AreGivenOnce (sym e) ready.once }

pub after_ready : {B C : Type 0} (view : C → B) (action : Action B) (x y z : RunState) (q : Result C Stop)
    → ((w : List Account) → IsReady w x → state_over w y ≡ state_over w x) → FindsAndCarriesOut view action y z q → FindsAndCarriesOut view action x z q
after_ready view action x y z q same h w ready =
    subst (λ s. Does view action s (state_over w z) q) (same w ready) (h w (ready_same w x y (same w ready) ready))

-- the outcome of an action, and that it has one
abbrev is_ok : {A : Type 0} → Outcome A → Bool
is_ok (ok a v) = true
is_ok _ = false

pub stops_before : {A B : Type 0} (o : Outcome A) (f : A → Action B) (why : Stop) → Stops (bind o (λ a. done)) why → Stops (bind o f) why
stops_before (ok a v) f (Failed e) h = absurd (false≢true (sym (ap is_ok h)))
stops_before (ok a v) f Limit h = absurd (false≢true (sym (ap is_ok h)))
stops_before (ok a v) f IllTyped h = absurd (false≢true (sym (ap is_ok h)))
stops_before (ok a v) f Memory h = tt
stops_before (failed n) f (Failed e) h = cc
stops_before (failed n) f Limit h = cc
stops_before (failed n) f IllTyped h = cc
stops_before (failed n) f Memory h = tt
stops_before limit f (Failed e) h = cc
stops_before limit f Limit h = refl
stops_before limit f IllTyped h = cc
stops_before limit f Memory h = tt
stops_before ill f (Failed e) h = cc
stops_before ill f Limit h = cc
stops_before ill f IllTyped h = refl
stops_before ill f Memory h = tt

bind_bind : {A B C : Type 0} (o : Outcome A) (p : A → Action B) (f : B → Action C) → bind (bind o p) f ≡ bind o (λ a. p a >>= f)
bind_bind (ok a s) p f = refl
bind_bind (failed e) p f = refl
bind_bind limit p f = refl
bind_bind ill p f = refl

at_settled : {B : Type 0} (receiver : r.Receiver) (f : r.Spot → Action B) (s : State) → at_spot receiver f s ≡ (settled receiver >>= (λ one. at_spot one f)) s
at_settled receiver f s = ap (λ o. bind o f) (settles_to_look receiver s) ∙ bind_bind (settled receiver s) r.look_at f

-- what is done with what the receiver is, to which another is settled, is done with what that is
pub after_settled : {B C : Type 0} (view : C → B) (receiver : r.Receiver) (f : r.Spot → Action B) (one : Settled) (x y z : RunState) (q : Result C Stop)
    → FindsAndCarriesOut settled_of (settled receiver) x y (Ok one) → FindsAndCarriesOut view (at_spot (settled_of one) f) y z q → FindsAndCarriesOut view (at_spot receiver f) x z q
after_settled view receiver f one x y z q first second =
    find_same view (at_spot receiver f) (settled receiver >>= (λ other. at_spot other f)) x z q (λ w ready. at_settled receiver f (state_over w x))
    (find_then AnyOne (settled receiver) (settled_keeps receiver) settled_of view (λ other. at_spot other f) one x y z q first (λ _. second))

pub settled_stops : {B C : Type 0} (view : C → B) (receiver : r.Receiver) (f : r.Spot → Action B) (x y z : RunState) (why : Stop)
    → FindsAndCarriesOut {B = Settled} settled_of (settled receiver) x y (Err why) → FindsAndCarriesOut {B = C} view (at_spot receiver f) x z (Err why)
settled_stops view receiver f x y z why h =
    find_same view (at_spot receiver f) (settled receiver >>= (λ other. at_spot other f)) x z (Err why) (λ w ready. at_settled receiver f (state_over w x))
    (find_stopped settled_of view (settled receiver) (λ other. at_spot other f) x y z why h)
