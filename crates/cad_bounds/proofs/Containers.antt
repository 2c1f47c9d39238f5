-- Containers: the same while the units last.
use Rattle.std.specs.Prelude.{ℕ, suc, ◌+◌, ◌-◌, nat_le, List, [], ◌∷◌, ◌++◌, Option, Some, None, option_and_then, ℤ, pos, negsuc}
use Rattle.std.specs.Prelude.{unsigned_abs}
use Rattle.cad_syntax.specs.Types.{PureType}
use Rattle.cad_types.specs.Below.{below}
use Rattle.cad_values.specs.Fits.{most_elements}
use Rattle.cad_values.specs.Values.{PureValue}
use Rattle.cad_world.specs.Rows.{NodeShape, array, dictionary, Row, stop, gap, node, Tree, Slot, out, free, full, slot, put, cut, wedge, add_last, join, front, back, count_places, bare_tree}
use Rattle.cad_world.specs.State.{Action}
use Rattle.cad_world.specs.Trees.{whole, wrapped, nil_tree, value_of}
use Rattle.cad_world.specs.Declared.{declarations}
use Rattle.cad_world.specs.Locations.{key_position}
use Rattle.cad_world.specs.OwnTypes.{own_type}
use Rattle.cad_evaluation.specs.Numbers.{integer_in, bool_tree}
use Rattle.cad_evaluation.specs.Texts.{int_tree, optional_tree}
use Rattle.cad_evaluation.specs.Containers.{becomes, of_type, all_of_type, room, equal_place, is_found, array_contains, array_first_index, elements_in, array_copy, array_concat, are_places, array_slice, turned, array_reverse, array_append, array_append_all, is_index, array_insert, array_cut, array_remove_at, array_remove, array_remove_first, last_index, array_remove_last, keys_row, dictionary_keys, contains_key, without_key, taken_value, key_put, dictionary_insert, key_cut, dictionary_remove}
use Rattle.cad_bounds.proofs.Same.{Runs, Same, self_units, same_self, same_give, same_fail, same_some, same_or_fail, same_require, same_bind}
use Rattle.cad_bounds.proofs.Reading.{same_copied}

pub same_becomes : (R : Runs) (x1 : ℕ) (x2 : NodeShape) (x3 : Row) → Same R (becomes x1 x2 x3) (becomes x1 x2 x3)
same_becomes R l shape r = same_self R _ (λ s. self_units s.units)

pub same_of_type : {A : Type 0} (R : Runs) (x1 : PureType) (x2 : Tree) (x3 x3' : Action A) → Same R x3 x3' → Same {A = A} R (of_type x1 x2 x3) (of_type x1 x2 x3')
same_of_type R type t p p' h_p = λ s low. (same_or_fail R 113 (own_type s t) _ _ (λ own. (same_require R 129 (below (declarations s) own type) _ _ h_p))) s low

pub same_all_of_type : {A : Type 0} (R : Runs) (x1 : PureType) (x2 : Row) (x3 x3' : Action A) → Same R x3 x3' → Same {A = A} R (all_of_type x1 x2 x3) (all_of_type x1 x2 x3')
same_all_of_type R type stop p p' h_p = h_p
same_all_of_type R type (gap r) p p' h_p = same_all_of_type R type r _ _ h_p
same_all_of_type R type (node l n s k r) p p' h_p = same_of_type R type (record { optionals = n; shape = s; parts = k }) _ _ (same_all_of_type R type r _ _ h_p)

pub same_room : {A : Type 0} (R : Runs) (x1 : ℕ) (x2 x2' : Action A) → Same R x2 x2' → Same {A = A} R (room x1 x2) (room x1 x2')
same_room R n p p' h_p = same_require R 123 (nat_le n most_elements) _ _ h_p

pub same_array_contains : (R : Runs) (x1 : Row) (x2 : Tree) → Same R (array_contains x1 x2) (array_contains x1 x2)
same_array_contains R r t = same_give R (bool_tree (is_found (equal_place (value_of t) 0 r)))

pub same_array_first_index : (R : Runs) (x1 : Row) (x2 : Tree) → Same R (array_first_index x1 x2) (array_first_index x1 x2)
same_array_first_index R r t = same_give R (optional_tree (option_and_then int_tree (equal_place (value_of t) 0 r)))

pub same_array_copy : (R : Runs) (x1 : PureType) (x2 : Row) → Same R (array_copy x1 x2) (array_copy x1 x2)
same_array_copy R type r = same_copied R (whole (array type) r)

pub same_array_concat : (R : Runs) (x1 : PureType) (x2 : Row) (x3 : Tree) → Same R (array_concat x1 x2 x3) (array_concat x1 x2 x3)
same_array_concat R type r other = same_some R (elements_in other) _ _ (λ q. (same_all_of_type R type q _ _ (same_room R (count_places r + count_places q) _ _ (same_array_copy R type (join r q)))))

pub same_array_slice : (R : Runs) (x1 : PureType) (x2 : Row) (x3 : Tree) (x4 : Tree) → Same R (array_slice x1 x2 x3 x4) (array_slice x1 x2 x3 x4)
same_array_slice R type r from up_to = same_some R (integer_in from) _ _ (λ i. (same_some R (integer_in up_to) _ _ (λ j. (same_require R 105 (are_places i j (count_places r)) _ _ (same_array_copy R type (front (unsigned_abs j - unsigned_abs i) (back (unsigned_abs i) r)))))))

pub same_array_reverse : (R : Runs) (x1 : PureType) (x2 : Row) → Same R (array_reverse x1 x2) (array_reverse x1 x2)
same_array_reverse R type r = same_array_copy R type (turned r stop)

pub same_array_append : (R : Runs) (x1 : ℕ) (x2 : PureType) (x3 : Row) (x4 : Tree) → Same R (array_append x1 x2 x3 x4) (array_append x1 x2 x3 x4)
same_array_append R l type r t = same_of_type R type t _ _ (same_room R (suc (count_places r)) _ _ (same_becomes R l (array type) (add_last t r)))

pub same_array_append_all : (R : Runs) (x1 : ℕ) (x2 : PureType) (x3 : Row) (x4 : Tree) → Same R (array_append_all x1 x2 x3 x4) (array_append_all x1 x2 x3 x4)
same_array_append_all R l type r other = same_some R (elements_in other) _ _ (λ q. (same_all_of_type R type q _ _ (same_room R (count_places r + count_places q) _ _ (same_becomes R l (array type) (join r q)))))

pub same_array_insert : (R : Runs) (x1 : ℕ) (x2 : PureType) (x3 : Row) (x4 : Tree) (x5 : Tree) → Same R (array_insert x1 x2 x3 x4 x5) (array_insert x1 x2 x3 x4 x5)
same_array_insert R l type r at t = same_some R (integer_in at) _ _ (λ i. (same_require R 104 (is_index i (suc (count_places r))) _ _ (same_of_type R type t _ _ (same_room R (suc (count_places r)) _ _ (same_becomes R l (array type) (wedge (unsigned_abs i) t r))))))

pub same_array_cut : (R : Runs) (x1 : ℕ) (x2 : PureType) (x3 : Row) (x4 : ℕ) (x5 : Slot) → Same R (array_cut x1 x2 x3 x4 x5) (array_cut x1 x2 x3 x4 x5)
same_array_cut R l type r i (full t) = same_bind R _ _ _ _ (same_becomes R l (array type) (cut i r)) (λ u1. (same_give R (bare_tree t)))
same_array_cut R l type r i free = same_fail R 113
same_array_cut R l type r i out = same_fail R 104

pub same_array_remove_at : (R : Runs) (x1 : ℕ) (x2 : PureType) (x3 : Row) (x4 : ℤ) → Same R (array_remove_at x1 x2 x3 x4) (array_remove_at x1 x2 x3 x4)
same_array_remove_at R l type r (pos i) = same_array_cut R l type r i (slot i r)
same_array_remove_at R l type r (negsuc i) = same_fail R 104

pub same_array_remove : (R : Runs) (x1 : ℕ) (x2 : PureType) (x3 : Row) (x4 : Tree) → Same R (array_remove x1 x2 x3 x4) (array_remove x1 x2 x3 x4)
same_array_remove R l type r at = same_some R (integer_in at) _ _ (λ v1. (same_array_remove_at R l type r v1))

pub same_array_remove_first : (R : Runs) (x1 : ℕ) (x2 : PureType) (x3 : Row) → Same R (array_remove_first x1 x2 x3) (array_remove_first x1 x2 x3)
same_array_remove_first R l type r = same_array_cut R l type r 0 (slot 0 r)

pub same_array_remove_last : (R : Runs) (x1 : ℕ) (x2 : PureType) (x3 : Row) → Same R (array_remove_last x1 x2 x3) (array_remove_last x1 x2 x3)
same_array_remove_last R l type r = same_array_remove_at R l type r (last_index (count_places r))

pub same_dictionary_keys : (R : Runs) (x1 : PureType) (x2 : List PureValue) → Same R (dictionary_keys x1 x2) (dictionary_keys x1 x2)
same_dictionary_keys R key ks = same_give R (whole (array key) (keys_row ks))

pub same_contains_key : (R : Runs) (x1 : List PureValue) (x2 : Tree) → Same R (contains_key x1 x2) (contains_key x1 x2)
same_contains_key R ks t = same_give R (bool_tree (is_found (key_position (value_of t) ks)))

pub same_taken_value : (R : Runs) (x1 : Slot) → Same R (taken_value x1) (taken_value x1)
same_taken_value R (full t) = same_give R (wrapped (bare_tree t))
same_taken_value R _ = same_fail R 113

pub same_key_put : (R : Runs) (x1 : ℕ) (x2 : PureType) (x3 : PureType) (x4 : List PureValue) (x5 : Row) (x6 : Tree) (x7 : Tree) (x8 : Option ℕ) → Same R (key_put x1 x2 x3 x4 x5 x6 x7 x8) (key_put x1 x2 x3 x4 x5 x6 x7 x8)
same_key_put R l key value ks r k t (Some i) = same_bind R _ _ _ _ (same_becomes R l (dictionary key value ks) (put i t r)) (λ u1. (same_taken_value R (slot i r)))
same_key_put R l key value ks r k t None = same_room R (suc (count_places r)) _ _ (same_bind R _ _ _ _ (same_becomes R l (dictionary key value (ks ++ value_of k ∷ [])) (add_last t r)) (λ u1. (same_give R nil_tree)))

pub same_dictionary_insert : (R : Runs) (x1 : ℕ) (x2 : PureType) (x3 : PureType) (x4 : List PureValue) (x5 : Row) (x6 : Tree) (x7 : Tree) → Same R (dictionary_insert x1 x2 x3 x4 x5 x6 x7) (dictionary_insert x1 x2 x3 x4 x5 x6 x7)
same_dictionary_insert R l key value ks r k t = same_of_type R key k _ _ (same_of_type R value t _ _ (same_key_put R l key value ks r k t (key_position (value_of k) ks)))

pub same_key_cut : (R : Runs) (x1 : ℕ) (x2 : PureType) (x3 : PureType) (x4 : List PureValue) (x5 : Row) (x6 : Option ℕ) → Same R (key_cut x1 x2 x3 x4 x5 x6) (key_cut x1 x2 x3 x4 x5 x6)
same_key_cut R l key value ks r None = same_give R nil_tree
same_key_cut R l key value ks r (Some i) = same_bind R _ _ _ _ (same_becomes R l (dictionary key value (without_key i ks)) (cut i r)) (λ u1. (same_taken_value R (slot i r)))

pub same_dictionary_remove : (R : Runs) (x1 : ℕ) (x2 : PureType) (x3 : PureType) (x4 : List PureValue) (x5 : Row) (x6 : Tree) → Same R (dictionary_remove x1 x2 x3 x4 x5 x6) (dictionary_remove x1 x2 x3 x4 x5 x6)
same_dictionary_remove R l key value ks r k = same_key_cut R l key value ks r (key_position (value_of k) ks)
