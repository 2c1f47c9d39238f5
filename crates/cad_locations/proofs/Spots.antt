-- Locations that are places of a node's row.
use Rattle.std.proofs.Common.{◌≡◌, ◌<◌, ℕ, suc, List, length, Option, Some, refl, sym, ap, ◌∙◌}
use Rattle.std.specs.Prelude.{ℤ, pos, IfSome}
use Rattle.cad_rows.specs.Views.{pure_row}
use Rattle.cad_rows.specs.declared.tree.Place.{Place}
use Rattle.cad_syntax.specs.Types.{PureType}
use Rattle.cad_values.specs.Values.{PureValue}
use Rattle.cad_world.specs.Labels.{at}
use Rattle.cad_world.specs.Locations.{Location, part, element, entry, name, slot_at, element_of, entry_of_key, key_position, keys_in, keys_of, in_element, in_entry}
use Rattle.cad_world.specs.Rows.{array, dictionary, Tree, Found, slot, named}
use Rattle.cad_state.specs.Views.{state_over, IsReady}
use Rattle.cad_state.specs.declared.state.RunState.{RunState}
use Rattle.cad_world.specs.State.{Account, State, ok, or_fail, give}
use Rattle.cad_locations.specs.Code.Spots.{IsPlace, IsElement, IsKey, named_there}
use Rattle.cad_locations.proofs.Slots.{in_bounds}

-- what is told of a location that may be a place
abbrev pub MayBePlace : Location → RunState → Option (ℕ × ℕ) → Type 0
MayBePlace x state o = IfSome o (λ p. (w : List Account) → IsReady w state → IsPlace x p.0 p.1 (state_over w state))

abbrev pub MayBeIndex : Location → ℕ → RunState → Option ℕ → Type 0
MayBeIndex x l state o = IfSome o (λ i. (w : List Account) → IsReady w state → IsPlace x l i (state_over w state))

pub array_place : (t : Tree) (type : PureType) (ps : List Place) (z : ℤ) (i : ℕ) → t.shape ≡ array type → t.parts ≡ pure_row ps → z ≡ pos i → i < length ps → IsElement z i t
array_place t type ps z i shape parts index h = record {
  index = index;
  place = λ s.
      (λ j. element_of (index j) (shape j) (parts j) s)
      ∙ in_bounds ps i s h
      ∙ sym (ap (λ r. ok (slot i r) s) parts);
}

pub key_place : (t : Tree) (key value : PureType) (ks : List PureValue) (k : PureValue) (i : ℕ) → t.shape ≡ dictionary key value ks → Some i ≡ key_position k ks → IsKey k i t
key_place t key value ks k i shape index = record {
  index = ap (λ sh. key_position k (keys_in sh)) shape ∙ sym index;
  place = λ s. ap (λ sh. entry_of_key k sh t.parts s) shape ∙ ap (λ o. ok (slot_at o t.parts) s) (sym index);
}

pub element_is : (l : ℕ) (z : ℤ) (i : ℕ) (f : Found) (s : State) → at l s ≡ Some f → IsElement z i f.tree → IsPlace (element l z) l i s
element_is l z i f s e is = record {
  slot =
      ap (λ o. or_fail 113 o (λ g. element_of z g.tree.shape g.tree.parts) s) e
      ∙ is.place s
      ∙ sym (ap (λ o. or_fail 113 o (λ g. give (slot i g.tree.parts)) s) e);
  changed = λ g n. ap (λ j. in_element g l j (record s { next_label = n })) is.index;
}

pub entry_is : (l : ℕ) (k : PureValue) (i : ℕ) (f : Found) (s : State) → at l s ≡ Some f → IsKey k i f.tree → IsPlace (entry l k) l i s
entry_is l k i f s e is = record {
  slot =
      ap (λ o. or_fail 113 o (λ g. entry_of_key k g.tree.shape g.tree.parts) s) e
      ∙ is.place s
      ∙ sym (ap (λ o. or_fail 113 o (λ g. give (slot i g.tree.parts)) s) e);
  changed = λ g n.
      ap (λ o. in_entry g l (key_position k (keys_of o)) (record s { next_label = n })) e
      ∙ ap (λ p. in_entry g l p (record s { next_label = n })) is.index;
}

pub part_is : (l i : ℕ) (s : State) → IsPlace (part l i) l i s
part_is l i s = record { slot = refl; changed = λ g n. refl }

-- what stands in such a place is named there
pub named_place : (x : Location) (l i : ℕ) (s : State) → IsPlace x l i s → named_there x s ≡ name (part l i) s
named_place x l i s is = ap (ok s.next_label) (is.changed (λ j. named j s.next_label) (suc s.next_label))
