-- Locations: the same while the units last.
use Rattle.std.specs.Prelude.{ℕ, suc, Some, None, ℤ}
use Rattle.cad_values.specs.Values.{PureValue}
use Rattle.cad_world.specs.Rows.{NodeShape, array, dictionary, Row, Slot, out, free, full, slot, named, Found}
use Rattle.cad_world.specs.State.{Action}
use Rattle.cad_world.specs.Labels.{at}
use Rattle.cad_world.specs.Locations.{Location, variable, contract, stored, receiver, part, element, entry, key_position, element_slot, slot_at, or_out_of_bounds, element_of, entry_of_key, with_found, slot_of, empty_error, absent, as_read, read_slot, read, name}
use Rattle.cad_bounds.proofs.Same.{Runs, Same, self_units, same_self, units_changed, same_give, same_fail, same_stuck, same_or_fail, same_bind}

pub same_or_out_of_bounds : (R : Runs) (x1 : Slot) → Same R (or_out_of_bounds x1) (or_out_of_bounds x1)
same_or_out_of_bounds R out = same_fail R 104
same_or_out_of_bounds R x = same_give R x

pub same_element_of : (R : Runs) (x1 : ℤ) (x2 : NodeShape) (x3 : Row) → Same R (element_of x1 x2 x3) (element_of x1 x2 x3)
same_element_of R i (array t) r = same_or_out_of_bounds R (element_slot i r)
same_element_of R i _ r = same_stuck R

pub same_entry_of_key : (R : Runs) (x1 : PureValue) (x2 : NodeShape) (x3 : Row) → Same R (entry_of_key x1 x2 x3) (entry_of_key x1 x2 x3)
same_entry_of_key R key (dictionary k t ks) r = same_give R (slot_at (key_position key ks) r)
same_entry_of_key R key _ r = same_stuck R

pub same_with_found : {A : Type 0} (R : Runs) (x1 : ℕ) (x2 x2' : Found → Action A) → ((y0 : Found) → Same R (x2 y0) (x2' y0)) → Same {A = A} R (with_found x1 x2) (with_found x1 x2')
same_with_found R l f f' h_f = λ s low. (same_or_fail R 113 (at l s) _ _ h_f) s low

pub same_slot_of : (R : Runs) (x1 : Location) → Same R (slot_of x1) (slot_of x1)
same_slot_of R (variable x) = same_self R _ (λ s. self_units s.units)
same_slot_of R (receiver l) = same_with_found R l _ _ (λ f. (same_give R (full (record (f.tree) { optionals = 0 }))))
same_slot_of R (contract id) = same_self R _ (λ s. self_units s.units)
same_slot_of R (stored a n) = same_self R _ (λ s. self_units s.units)
same_slot_of R (part l i) = same_with_found R l _ _ (λ f. (same_give R (slot i f.tree.parts)))
same_slot_of R (element l i) = same_with_found R l _ _ (λ f. (same_element_of R i f.tree.shape f.tree.parts))
same_slot_of R (entry l key) = same_with_found R l _ _ (λ f. (same_entry_of_key R key f.tree.shape f.tree.parts))

pub same_empty_error : {A : Type 0} (R : Runs) (x1 : Location) → Same {A = A} R (empty_error x1) (empty_error x1)
same_empty_error R (part l i) = same_fail R 132
same_empty_error R (element l i) = same_fail R 113
same_empty_error R (entry l key) = same_fail R 113
same_empty_error R _ = same_stuck R

pub same_absent : (R : Runs) (x1 : Location) → Same R (absent x1) (absent x1)
same_absent R (entry l key) = same_give R None
same_absent R _ = same_stuck R

pub same_read_slot : (R : Runs) (x1 : Location) (x2 : Slot) → Same R (read_slot x1 x2) (read_slot x1 x2)
same_read_slot R x (full t) = same_give R (Some (as_read x t))
same_read_slot R x free = same_empty_error R x
same_read_slot R x out = same_absent R x

pub same_read : (R : Runs) (x1 : Location) → Same R (read x1) (read x1)
same_read R x = same_bind R _ _ _ _ (same_slot_of R x) (λ v1. (same_read_slot R x v1))

pub same_name : (R : Runs) (x1 : Location) → Same R (name x1) (name x1)
same_name R (receiver l) = same_give R l
same_name R x = same_self R _ (λ s. units_changed (λ i. named i s.next_label) x (record s { next_label = suc s.next_label }))
