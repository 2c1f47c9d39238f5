-- The built-in members of arrays and dictionaries.
use Rattle.std.specs.Prelude.{ℕ, zero, suc, ◌+◌, ◌-◌, Bool, true, false, ◌&&◌, nat_le, List, [], ◌∷◌, ◌++◌, Option, Some, None, option_and_then, ℤ, pos, negsuc, if◌then◌else◌}
use Rattle.std.specs.Prelude.{int_lt, int_le, unsigned_abs}
use Rattle.cad_syntax.specs.Types.{PureType}
use Rattle.cad_types.specs.Below.{below}
use Rattle.cad_values.specs.Fits.{most_elements}
use Rattle.cad_values.specs.Values.{PureValue, void}
use Rattle.cad_world.specs.Rows.{NodeShape, array, dictionary, Row, stop, gap, node, Tree, Slot, out, free, full, slot, first, put, cut, wedge, add_last, join, front, back, count_places, bare_tree}
use Rattle.cad_world.specs.State.{Action, ok, ◌>>◌, give, fail, require, or_fail, with_some}
use Rattle.cad_world.specs.Same.{equal}
use Rattle.cad_world.specs.Trees.{of_plain, whole, wrapped, nil_tree, tree_of, value_of}
use Rattle.cad_world.specs.Declared.{declarations}
use Rattle.cad_world.specs.Labels.{with_node}
use Rattle.cad_world.specs.Locations.{key_position}
use Rattle.cad_world.specs.OwnTypes.{own_type}
use Rattle.cad_evaluation.specs.Numbers.{integer_in, bool_tree}
use Rattle.cad_evaluation.specs.Texts.{int_tree, optional_tree}
use Rattle.cad_evaluation.specs.Reading.{copied}

abbrev pub void_tree : Tree
void_tree = of_plain void

-- the node with the label is changed
abbrev pub becomes : ℕ → NodeShape → Row → Action Tree
becomes l shape r = λ s. ok void_tree (with_node l shape r s)

-- ---- what a container may hold

-- 129 where the value isn't of the container's own type, 113 where it is a reference to what is gone
abbrev pub of_type : {A : Type 0} → PureType → Tree → Action A → Action A
of_type type t p = λ s. or_fail 113 (own_type s t) (λ own. require 129 (below (declarations s) own type) p) s

abbrev pub all_of_type : {A : Type 0} → PureType → Row → Action A → Action A
all_of_type type stop p = p
all_of_type type (gap r) p = all_of_type type r p
all_of_type type (node l n s k r) p = of_type type (record { optionals = n; shape = s; parts = k }) (all_of_type type r p)

-- 123 where there would be more elements than a container has
abbrev pub room : {A : Type 0} → ℕ → Action A → Action A
room n p = require 123 (nat_le n most_elements) p

-- ---- arrays: the label, the type of the elements, and the elements

-- the first place, from i on, with an equal element
abbrev pub equal_place : PureValue → ℕ → Row → Option ℕ
equal_place v i stop = None
equal_place v i (gap r) = equal_place v (suc i) r
equal_place v i (node l n s k r) = if equal v (value_of (record { optionals = n; shape = s; parts = k })) then Some i else equal_place v (suc i) r

abbrev pub is_found : {A : Type 0} → Option A → Bool
is_found None = false
is_found (Some a) = true

abbrev pub array_contains : Row → Tree → Action Tree
array_contains r t = give (bool_tree (is_found (equal_place (value_of t) 0 r)))

abbrev pub array_first_index : Row → Tree → Action Tree
array_first_index r t = give (optional_tree (option_and_then int_tree (equal_place (value_of t) 0 r)))

abbrev pub elements_in_shape : ℕ → NodeShape → Row → Option Row
elements_in_shape zero (array t) r = Some r
elements_in_shape n shape r = None

-- the elements of an array
abbrev pub elements_in : Tree → Option Row
elements_in t = elements_in_shape t.optionals t.shape t.parts

-- an array of copies
abbrev pub array_copy : PureType → Row → Action Tree
array_copy type r = copied (whole (array type) r)

abbrev pub array_concat : PureType → Row → Tree → Action Tree
array_concat type r other = with_some (elements_in other) (λ q. all_of_type type q (room (count_places r + count_places q) (array_copy type (join r q))))

-- 0, from, up_to and the length are in order
abbrev pub are_places : ℤ → ℤ → ℕ → Bool
are_places from up_to n = int_le (pos 0) from && int_le from up_to && int_le up_to (pos n)

abbrev pub array_slice : PureType → Row → Tree → Tree → Action Tree
array_slice type r from up_to =
    with_some (integer_in from) (λ i. with_some (integer_in up_to) (λ j.
    require 105 (are_places i j (count_places r)) (array_copy type (front (unsigned_abs j - unsigned_abs i) (back (unsigned_abs i) r)))))

abbrev pub turned : Row → Row → Row
turned stop q = q
turned (gap r) q = turned r (gap q)
turned (node l n s k r) q = turned r (node l n s k q)

abbrev pub array_reverse : PureType → Row → Action Tree
array_reverse type r = array_copy type (turned r stop)

abbrev pub array_append : ℕ → PureType → Row → Tree → Action Tree
array_append l type r t = of_type type t (room (suc (count_places r)) (becomes l (array type) (add_last t r)))

abbrev pub array_append_all : ℕ → PureType → Row → Tree → Action Tree
array_append_all l type r other = with_some (elements_in other) (λ q. all_of_type type q (room (count_places r + count_places q) (becomes l (array type) (join r q))))

abbrev pub is_index : ℤ → ℕ → Bool
is_index i n = int_le (pos 0) i && int_lt i (pos n)

abbrev pub array_insert : ℕ → PureType → Row → Tree → Tree → Action Tree
array_insert l type r at t =
    with_some (integer_in at) (λ i.
    require 104 (is_index i (suc (count_places r))) (of_type type t (room (suc (count_places r)) (becomes l (array type) (wedge (unsigned_abs i) t r)))))

abbrev pub array_cut : ℕ → PureType → Row → ℕ → Slot → Action Tree
array_cut l type r i (full t) = becomes l (array type) (cut i r) >> give (bare_tree t)
array_cut l type r i free = fail 113
array_cut l type r i out = fail 104

abbrev pub array_remove_at : ℕ → PureType → Row → ℤ → Action Tree
array_remove_at l type r (pos i) = array_cut l type r i (slot i r)
array_remove_at l type r (negsuc i) = fail 104

abbrev pub array_remove : ℕ → PureType → Row → Tree → Action Tree
array_remove l type r at = with_some (integer_in at) (array_remove_at l type r)

abbrev pub array_remove_first : ℕ → PureType → Row → Action Tree
array_remove_first l type r = array_cut l type r 0 (slot 0 r)

abbrev pub last_index : ℕ → ℤ
last_index zero = negsuc 0
last_index (suc n) = pos n

abbrev pub array_remove_last : ℕ → PureType → Row → Action Tree
array_remove_last l type r = array_remove_at l type r (last_index (count_places r))

-- ---- dictionaries: the label, the types of keys and values, the keys, and the values

abbrev pub keys_row : List PureValue → Row
keys_row [] = stop
keys_row (k ∷ ks) = first (tree_of k) (keys_row ks)

abbrev pub dictionary_keys : PureType → List PureValue → Action Tree
dictionary_keys key ks = give (whole (array key) (keys_row ks))

abbrev pub contains_key : List PureValue → Tree → Action Tree
contains_key ks t = give (bool_tree (is_found (key_position (value_of t) ks)))

-- without the key at i
abbrev pub without_key : ℕ → List PureValue → List PureValue
without_key i [] = []
without_key zero (k ∷ ks) = ks
without_key (suc i) (k ∷ ks) = k ∷ without_key i ks

-- what stood there in an optional
abbrev pub taken_value : Slot → Action Tree
taken_value (full t) = give (wrapped (bare_tree t))
taken_value _ = fail 113

-- the key stays where it stands, or comes last
abbrev pub key_put : ℕ → PureType → PureType → List PureValue → Row → Tree → Tree → Option ℕ → Action Tree
key_put l key value ks r k t (Some i) = becomes l (dictionary key value ks) (put i t r) >> taken_value (slot i r)
key_put l key value ks r k t None = room (suc (count_places r)) (becomes l (dictionary key value (ks ++ value_of k ∷ [])) (add_last t r) >> give nil_tree)

abbrev pub dictionary_insert : ℕ → PureType → PureType → List PureValue → Row → Tree → Tree → Action Tree
dictionary_insert l key value ks r k t = of_type key k (of_type value t (key_put l key value ks r k t (key_position (value_of k) ks)))

abbrev pub key_cut : ℕ → PureType → PureType → List PureValue → Row → Option ℕ → Action Tree
key_cut l key value ks r None = give nil_tree
key_cut l key value ks r (Some i) = becomes l (dictionary key value (without_key i ks)) (cut i r) >> taken_value (slot i r)

abbrev pub dictionary_remove : ℕ → PureType → PureType → List PureValue → Row → Tree → Action Tree
dictionary_remove l key value ks r k = key_cut l key value ks r (key_position (value_of k) ks)
