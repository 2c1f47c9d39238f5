-- Changing: the same while the units last.
use Rattle.std.specs.Prelude.{ℕ, suc, not, List, Option, Some, None}
use Rattle.cad_syntax.specs.Types.{PureType}
use Rattle.cad_values.specs.Values.{PureValue}
use Rattle.cad_world.specs.Rows.{NodeShape, dictionary, Row, Tree, Slot, out, free, full, slot, put, clear, tree_owns, count_places}
use Rattle.cad_world.specs.State.{Action}
use Rattle.cad_world.specs.Trees.{nil_tree, tree_of}
use Rattle.cad_world.specs.Labels.{variables}
use Rattle.cad_world.specs.Locations.{Location, variable, part, element, entry, as_read, key_position}
use Rattle.cad_evaluation.specs.Changing.{Content, nothing, content, no_optional, content_of, by_content, opened, nothing_there, take_slot, take, put_at, fill_variable, fill_part, fill_place, element_type, fill_element, fill_key, drop_key, fill_entry, fill, cleared, assigned, empty_if_nil, force_assigned, exchanged, same_location, still_there, both_swapped, swapped}
use Rattle.cad_bounds.proofs.Same.{Runs, Same, self_units, same_self, units_changed, same_give, same_fail, same_stuck, same_done, same_guard, same_choose, same_bind}
use Rattle.cad_bounds.proofs.Containers.{same_of_type, same_room}
use Rattle.cad_bounds.proofs.Locations.{same_empty_error, same_read, same_slot_of, same_with_found}
use Rattle.cad_bounds.proofs.Transfers.{same_transferred}

pub same_by_content : {A : Type 0} (R : Runs) (x1 : Content) (x2 x2' : Action A) (x3 x3' : Tree → Action A) → Same R x2 x2' → ((y0 : Tree) → Same R (x3 y0) (x3' y0)) → Same {A = A} R (by_content x1 x2 x3) (by_content x1 x2' x3')
same_by_content R nothing p p' f f' h_p h_f = h_p
same_by_content R (content t) p p' f f' h_p h_f = h_f t
same_by_content R no_optional p p' f f' h_p h_f = same_stuck R

pub same_opened : {A : Type 0} (R : Runs) (x1 : Tree) (x2 x2' : Action A) (x3 x3' : Tree → Action A) → Same R x2 x2' → ((y0 : Tree) → Same R (x3 y0) (x3' y0)) → Same {A = A} R (opened x1 x2 x3) (opened x1 x2' x3')
same_opened R t p p' f f' h_p h_f = same_by_content R (content_of t) _ _ _ _ h_p h_f

pub same_nothing_there : (R : Runs) (x1 : Location) → Same R (nothing_there x1) (nothing_there x1)
same_nothing_there R (entry l key) = same_give R nil_tree
same_nothing_there R _ = same_stuck R

pub same_take_slot : (R : Runs) (x1 : Location) (x2 : Slot) → Same R (take_slot x1 x2) (take_slot x1 x2)
same_take_slot R x (full t) = same_self R _ (λ s. units_changed clear x s)
same_take_slot R x free = same_empty_error R x
same_take_slot R x out = same_nothing_there R x

pub same_take : (R : Runs) (x1 : Location) → Same R (take x1) (take x1)
same_take R x = same_bind R _ _ _ _ (same_slot_of R x) (λ v1. (same_take_slot R x v1))

pub same_put_at : (R : Runs) (x1 : Location) (x2 : Tree) → Same R (put_at x1 x2) (put_at x1 x2)
same_put_at R x t = same_self R _ (λ s. units_changed (λ i. put i t) x s)

pub same_fill_variable : (R : Runs) (x1 : ℕ) (x2 : Tree) (x3 : Slot) → Same R (fill_variable x1 x2 x3) (fill_variable x1 x2 x3)
same_fill_variable R x t (full old) = same_stuck R
same_fill_variable R x t _ = same_put_at R (variable x) t

pub same_fill_part : (R : Runs) (x1 : Location) (x2 : Tree) (x3 : Slot) → Same R (fill_part x1 x2 x3) (fill_part x1 x2 x3)
same_fill_part R x t free = same_put_at R x t
same_fill_part R x t (full old) = same_fail R 113
same_fill_part R x t out = same_stuck R

pub same_fill_place : (R : Runs) (x1 : Location) (x2 : PureType) (x3 : Tree) (x4 : Slot) → Same R (fill_place x1 x2 x3 x4) (fill_place x1 x2 x3 x4)
same_fill_place R x type t free = same_of_type R type t _ _ (same_put_at R x t)
same_fill_place R x type t (full old) = same_fail R 113
same_fill_place R x type t out = same_fail R 104

pub same_fill_element : (R : Runs) (x1 : Location) (x2 : Tree) (x3 : Slot) (x4 : Option PureType) → Same R (fill_element x1 x2 x3 x4) (fill_element x1 x2 x3 x4)
same_fill_element R x t place None = same_stuck R
same_fill_element R x t place (Some type) = same_fill_place R x type t place

pub same_fill_key : (R : Runs) (x1 : ℕ) (x2 : PureType) (x3 : PureType) (x4 : List PureValue) (x5 : Row) (x6 : PureValue) (x7 : Tree) (x8 : Option ℕ) → Same R (fill_key x1 x2 x3 x4 x5 x6 x7 x8) (fill_key x1 x2 x3 x4 x5 x6 x7 x8)
same_fill_key R l key value ks r k t (Some i) = same_fill_part R (entry l k) t (slot i r)
same_fill_key R l key value ks r k t None = same_room R (suc (count_places r)) _ _ (same_self R _ (λ s. self_units s.units))

pub same_drop_key : (R : Runs) (x1 : ℕ) (x2 : PureType) (x3 : PureType) (x4 : List PureValue) (x5 : Row) (x6 : Option ℕ) → Same R (drop_key x1 x2 x3 x4 x5 x6) (drop_key x1 x2 x3 x4 x5 x6)
same_drop_key R l key value ks r (Some i) = same_self R _ (λ s. self_units s.units)
same_drop_key R l key value ks r None = same_done R

pub same_fill_entry : (R : Runs) (x1 : ℕ) (x2 : PureValue) (x3 : Tree) (x4 : NodeShape) (x5 : Row) → Same R (fill_entry x1 x2 x3 x4 x5) (fill_entry x1 x2 x3 x4 x5)
same_fill_entry R l k t (dictionary key value ks) r = same_opened R t _ _ _ _ (same_drop_key R l key value ks r (key_position k ks)) (λ v. (same_of_type R key (tree_of k) _ _ (same_of_type R value v _ _ (same_fill_key R l key value ks r k v (key_position k ks)))))
same_fill_entry R l k t shape r = same_stuck R

pub same_fill : (R : Runs) (x1 : Location) (x2 : Tree) → Same R (fill x1 x2) (fill x1 x2)
same_fill R (variable x) t = λ s low. (same_fill_variable R x t (slot x (variables s))) s low
same_fill R (part l i) t = same_with_found R l _ _ (λ f. (same_fill_part R (part l i) t (slot i f.tree.parts)))
same_fill R (element l i) t = same_with_found R l _ _ (λ f. (same_bind R _ _ _ _ (same_slot_of R (element l i)) (λ place. (same_fill_element R (element l i) t place (element_type f.tree.shape)))))
same_fill R (entry l k) t = same_with_found R l _ _ (λ f. (same_fill_entry R l k t f.tree.shape f.tree.parts))
same_fill R _ t = same_stuck R

pub same_cleared : (R : Runs) (x1 : Location) (x2 : Slot) → Same R (cleared x1 x2) (cleared x1 x2)
same_cleared R x (full t) = same_guard R (not (tree_owns t)) _ _ (same_self R _ (λ s. units_changed clear x s))
same_cleared R x _ = same_done R

pub same_assigned : (R : Runs) (x1 : Location) (x2 : Tree) → Same R (assigned x1 x2) (assigned x1 x2)
same_assigned R x t = same_bind R _ _ _ _ (same_bind R _ _ _ _ (same_slot_of R x) (λ v1. (same_cleared R x v1))) (λ u2. (same_fill R x t))

pub same_empty_if_nil : (R : Runs) (x1 : Location) (x2 : Slot) → Same R (empty_if_nil x1 x2) (empty_if_nil x1 x2)
same_empty_if_nil R x (full t) = same_opened R (as_read x t) _ _ _ _ (same_self R _ (λ s. units_changed clear x s)) (λ v. (same_fail R 115))
same_empty_if_nil R x free = same_empty_error R x
same_empty_if_nil R x out = same_bind R _ _ _ _ (same_nothing_there R x) (λ u1. (same_done R))

pub same_force_assigned : (R : Runs) (x1 : Location) (x2 : Tree) → Same R (force_assigned x1 x2) (force_assigned x1 x2)
same_force_assigned R x t = same_bind R _ _ _ _ (same_bind R _ _ _ _ (same_slot_of R x) (λ v1. (same_empty_if_nil R x v1))) (λ u2. (same_fill R x t))

pub same_exchanged : (R : Runs) (x1 : Location) (x2 : PureType) (x3 : Tree) → Same R (exchanged x1 x2 x3) (exchanged x1 x2 x3)
same_exchanged R x type t = same_bind R _ _ _ _ (same_bind R _ _ _ _ (same_take R x) (λ v1. (same_transferred R type v1))) (λ old. (same_bind R _ _ _ _ (same_fill R x t) (λ u2. (same_give R old))))

pub same_still_there : (R : Runs) (x1 : Location) → Same R (still_there x1) (still_there x1)
same_still_there R (part l i) = same_with_found R l _ _ (λ f. (same_done R))
same_still_there R (element l i) = same_with_found R l _ _ (λ f. (same_done R))
same_still_there R (entry l k) = same_with_found R l _ _ (λ f. (same_done R))
same_still_there R _ = same_done R

pub same_both_swapped : (R : Runs) (x1 : Location) (x2 : PureType) (x3 : Location) (x4 : PureType) → Same R (both_swapped x1 x2 x3 x4) (both_swapped x1 x2 x3 x4)
same_both_swapped R x xtype y ytype = same_bind R _ _ _ _ (same_bind R _ _ _ _ (same_take R x) (λ v1. (same_transferred R ytype v1))) (λ a. (same_bind R _ _ _ _ (same_bind R _ _ _ _ (same_take R y) (λ v2. (same_transferred R xtype v2))) (λ b. (same_bind R _ _ _ _ (same_bind R _ _ _ _ (same_bind R _ _ _ _ (same_still_there R x) (λ u3. (same_still_there R y))) (λ u4. (same_fill R x b))) (λ u5. (same_fill R y a))))))

pub same_swapped : (R : Runs) (x1 : Location) (x2 : PureType) (x3 : Location) (x4 : PureType) → Same R (swapped x1 x2 x3 x4) (swapped x1 x2 x3 x4)
same_swapped R x xtype y ytype = λ s low. (same_choose R (same_location s x y) _ _ _ _ (same_bind R _ _ _ _ (same_read R x) (λ u1. (same_done R))) (same_both_swapped R x xtype y ytype)) s low
