-- A place that is looked up stays as it is.
use Rattle.std.proofs.Common.{◌≡◌, ℤ, List, refl, sym, ap, ◌∙◌}
use Rattle.std.specs.Prelude.{Ok}
use Rattle.cad_locations.specs.Views.{looked_up}
use Rattle.cad_outcomes.specs.Outcomes.{no_value}
use Rattle.cad_receivers.proofs.Settling.{Stays, found_stays}
use Rattle.cad_state.specs.Views.{state_over, IsReady, FindsAndCarriesOut}
use Rattle.cad_state.specs.declared.state.RunState.{RunState}
use Rattle.cad_values.specs.Values.{PureValue}
use Rattle.cad_world.specs.Labels.{at}
use Rattle.cad_world.specs.Locations.{Location, variable, contract, stored, receiver, part, element, entry, slot_of, element_of, element_slot, or_out_of_bounds, entry_of_key}
use Rattle.cad_world.specs.Rows.{NodeShape, plain, link, array, dictionary, composite, Row, Slot, out, free, full}
use Rattle.cad_world.specs.State.{State, Account, Outcome, ok, failed, limit, ill, bind, done}

in_bounds : (o : Slot) (s : State) → Stays s (or_out_of_bounds o s)
in_bounds out s = tt
in_bounds free s = refl
in_bounds (full t) s = refl

element_stays : (i : ℤ) (shape : NodeShape) (r : Row) (s : State) → Stays s (element_of i shape r s)
element_stays i (array t) r s = in_bounds (element_slot i r) s
element_stays i (plain v) r s = tt
element_stays i (link a l n) r s = tt
element_stays i (dictionary k t ks) r s = tt
element_stays i (composite id n names) r s = tt

entry_stays : (key : PureValue) (shape : NodeShape) (r : Row) (s : State) → Stays s (entry_of_key key shape r s)
entry_stays key (dictionary k t ks) r s = refl
entry_stays key (plain v) r s = tt
entry_stays key (link a l n) r s = tt
entry_stays key (array t) r s = tt
entry_stays key (composite id n names) r s = tt

slot_stays : (x : Location) (s : State) → Stays s (slot_of x s)
slot_stays (variable n) s = refl
slot_stays (contract id) s = refl
slot_stays (stored a n) s = refl
slot_stays (receiver l) s = found_stays (at l s) _ s (λ f. refl)
slot_stays (part l i) s = found_stays (at l s) _ s (λ f. refl)
slot_stays (element l i) s = found_stays (at l s) _ s (λ f. element_stays i f.tree.shape f.tree.parts s)
slot_stays (entry l key) s = found_stays (at l s) _ s (λ f. entry_stays key f.tree.shape f.tree.parts s)

-- the state of an outcome
abbrev state_in : {A : Type 0} → State → Outcome A → State
state_in s (ok a v) = v
state_in s _ = s

stays_done : {A : Type 0} (o : Outcome A) (s t : State) → Stays s o → bind o (λ a. done) ≡ ok tt t → t ≡ s
stays_done (ok a v) s t stays e = sym (ap (state_in s) e) ∙ stays
stays_done (failed n) s t stays e = sym (ap (state_in s) e)
stays_done limit s t stays e = sym (ap (state_in s) e)
stays_done ill s t stays e = sym (ap (state_in s) e)

pub settled_same : (x : Location) (y z : RunState) → FindsAndCarriesOut {B = Unit {0}} no_value (looked_up x) y z (Ok tt) → (w : List Account) → IsReady w y → state_over w z ≡ state_over w y
settled_same x y z h w ready = stays_done (slot_of x (state_over w y)) (state_over w y) (state_over w z) (slot_stays x (state_over w y)) (h w ready)
