-- A location whose node is found first, and then what is done there.
use Rattle.std.proofs.Common.{◌≡◌, ℕ, Option, Some, None, refl, sym, ap, subst}
use Rattle.std.specs.Prelude.{Result, Ok, Err}
use Rattle.cad_outcomes.specs.declared.stop.Stop.{Stop}
use Rattle.cad_outcomes.specs.Outcomes.{Does, Stops, no_value}
use Rattle.cad_labels.specs.Laws.{Keeps, AnyOne}
use Rattle.cad_labels.proofs.Forms.{keeps_done}
use Rattle.cad_labels.proofs.Places.{found_keeps, slot_keeps}
use Rattle.cad_world.specs.Labels.{at}
use Rattle.cad_world.specs.Locations.{Location, variable, contract, stored, receiver, part, element, entry, with_found, slot_of, empty_error}
use Rattle.cad_world.specs.Rows.{Found, Slot}
use Rattle.cad_world.specs.State.{State, Outcome, Action, ok, bind, ◌>>=◌, ◌>>◌, done, or_fail}
use Rattle.cad_state.specs.Views.{state_over, FindsAndCarriesOut}
use Rattle.cad_state.specs.declared.state.RunState.{RunState}
use Rattle.cad_state.proofs.Finding.{ready_behind, find_then, find_stopped, find_same}
use Rattle.cad_locations.specs.Code.Errors.{empty_stop}
use Rattle.cad_locations.specs.Code.Slots.{node_there}

-- what begins with a look at a place begins with its node
found_first : {A B : Type 0} (l : ℕ) (f : Found → Action A) (g : A → Action B) (s : State) → (with_found l f >>= g) s ≡ (with_found l (λ x. done) >> (with_found l f >>= g)) s
found_first l f g s = go (at l s) refl
  where
    go : (o : Option Found) → at l s ≡ o → bind (or_fail 113 o f s) (λ a. g a) ≡ bind (or_fail 113 o (λ x. done) s) (λ u v. bind (with_found l f v) (λ a. g a))
    go None e = refl
    go (Some x) e = ap (λ o. bind (or_fail 113 o f s) (λ a. g a)) (sym e)

pub node_first : {A : Type 0} (x : Location) (g : Slot → Action A) (s : State) → (slot_of x >>= g) s ≡ (node_there x >> (slot_of x >>= g)) s
node_first (variable x) g s = refl
node_first (contract id) g s = refl
node_first (stored a n) g s = refl
node_first (receiver l) g s = found_first l _ g s
node_first (part l i) g s = found_first l _ g s
node_first (element l i) g s = found_first l _ g s
node_first (entry l key) g s = found_first l _ g s

pub node_keeps : (x : Location) → Keeps AnyOne (node_there x)
node_keeps (variable x) = keeps_done
node_keeps (contract id) = keeps_done
node_keeps (stored a n) = keeps_done
node_keeps (receiver l) = found_keeps AnyOne l (λ f. done) (λ f. keeps_done)
node_keeps (part l i) = found_keeps AnyOne l (λ f. done) (λ f. keeps_done)
node_keeps (element l i) = found_keeps AnyOne l (λ f. done) (λ f. keeps_done)
node_keeps (entry l key) = found_keeps AnyOne l (λ f. done) (λ f. keeps_done)

-- the node is found, and the rest is done
pub found_then : {A B : Type 0} (view : B → A) (x : Location) (g : Slot → Action A) (old mid new : RunState) (r : Result B Stop)
    → FindsAndCarriesOut no_value (node_there x) old mid (Ok tt) → FindsAndCarriesOut view (slot_of x >>= g) mid new r → FindsAndCarriesOut view (slot_of x >>= g) old new r
found_then view x g old mid new r first second =
    find_same view (slot_of x >>= g) (node_there x >> (slot_of x >>= g)) old new r (λ w ready. node_first x g (state_over w old))
    (find_then AnyOne (node_there x) (node_keeps x) no_value view (λ _. slot_of x >>= g) tt old mid new r first (λ _. second))

pub not_found : {A B : Type 0} (view : B → A) (x : Location) (g : Slot → Action A) (old mid new : RunState) (stop : Stop)
    → FindsAndCarriesOut no_value (node_there x) old mid (Err stop) → FindsAndCarriesOut {B = B} view (slot_of x >>= g) old new (Err stop)
not_found {B = B} view x g old mid new stop first =
    find_same view (slot_of x >>= g) (node_there x >> (slot_of x >>= g)) old new (Err stop) (λ w ready. node_first x g (state_over w old))
    (find_stopped {D = B} no_value view (node_there x) (λ _. slot_of x >>= g) old mid new stop first)

-- the place is known, and the rest is done
pub place_then : {A B C : Type 0} (seen : C → Slot) (view : B → A) (x : Location) (g : Slot → Action A) (old new : RunState) (o : C) (r : Result B Stop)
    → FindsAndCarriesOut seen (slot_of x) old old (Ok o) → FindsAndCarriesOut view (g (seen o)) old new r → FindsAndCarriesOut view (slot_of x >>= g) old new r
place_then seen view x g old new o r first second = find_then AnyOne (slot_of x) (slot_keeps x) seen view g o old old new r first (λ _. second)

pub no_place : {A B C : Type 0} (seen : C → Slot) (view : B → A) (x : Location) (g : Slot → Action A) (old new : RunState) (stop : Stop)
    → FindsAndCarriesOut seen (slot_of x) old old (Err stop) → FindsAndCarriesOut {B = B} view (slot_of x >>= g) old new (Err stop)
no_place {B = B} seen view x g old new stop first = find_stopped {D = B} seen view (slot_of x) g old old new stop first

-- an empty place has this error
pub empty_so : (A : Type 0) (x : Location) (s : State) → Stops (empty_error {A = A} x s) (empty_stop x)
empty_so A (variable x) s = refl
empty_so A (contract id) s = refl
empty_so A (stored a n) s = refl
empty_so A (receiver l) s = refl
empty_so A (part l i) s = refl
empty_so A (element l i) s = refl
empty_so A (entry l key) s = refl

-- ---- what leaves the state as it is

abbrev state_in : {A : Type 0} → State → Outcome A → State
state_in s (ok a t) = t
state_in s _ = s

-- where the node is found the state stays
found_same : (l : ℕ) (s t : State) → with_found l (λ f. done) s ≡ ok tt t → t ≡ s
found_same l s t e = go (at l s) e
  where
    go : (o : Option Found) → or_fail 113 o (λ f. done) s ≡ ok tt t → t ≡ s
    go None h = sym (ap (state_in s) h)
    go (Some f) h = sym (ap (state_in s) h)

there_same : (x : Location) (s t : State) → node_there x s ≡ ok tt t → t ≡ s
there_same (variable x) s t e = sym (ap (state_in s) e)
there_same (contract id) s t e = sym (ap (state_in s) e)
there_same (stored a n) s t e = sym (ap (state_in s) e)
there_same (receiver l) s t e = found_same l s t e
there_same (part l i) s t e = found_same l s t e
there_same (element l i) s t e = found_same l s t e
there_same (entry l key) s t e = found_same l s t e

-- where the node is found, what is done then is what is done
pub behind_node : {A B : Type 0} (view : B → A) (x : Location) (p : Action A) (old mid new : RunState) (r : Result B Stop)
    → FindsAndCarriesOut no_value (node_there x) old mid (Ok tt) → FindsAndCarriesOut view p mid new r → FindsAndCarriesOut view p old new r
behind_node view x p old mid new r first second w ready =
    let behind = ready_behind AnyOne (node_there x) (node_keeps x) w old mid tt ready (first w ready) in
    subst (λ (u : State). Does view p u (state_over w new) r) (there_same x (state_over w old) (state_over w mid) (first w ready)) (second w behind.1)
