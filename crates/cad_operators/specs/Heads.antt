-- What the nodes of two values tell of their sameness, without a walk through their parts.
use Rattle.std.specs.Prelude.{◌≡◌, Bool, true, false, ◌&&◌, ◌==◌, List, [], length, Option, Some, None}
use Rattle.cad_syntax.specs.declared.num.Num.{Num}
use Rattle.cad_syntax.specs.declared.type_id.TypeId.{TypeId}
use Rattle.cad_values.specs.Values.{PureValue, nil, some, Values, keys, Entries}
use Rattle.cad_values.specs.Values as v
use Rattle.cad_rows.specs.Views.{PlaceView, vacant, taken, as_row}
use Rattle.cad_world.specs.Rows.{NodeShape, plain, link, array, dictionary, composite, Row, Tree, is_full}
use Rattle.cad_world.specs.Same.{equal, equal_elements, all_under, under, is_so}
use Rattle.cad_world.specs.Trees.{keyed, values_in, named_values, value_of}
use Rattle.cad_evaluation.specs.Operators.{same}
use Rattle.cad_keys.specs.Sameness.{case_number, number_in_key, same_case}
use Rattle.cad_operators.specs.declared.heads.Head.{Head}
use Rattle.cad_operators.specs.declared.heads.Head.TheVariants as h

abbrev pub is_nil : PureValue → Bool
is_nil nil = true
is_nil _ = false

abbrev pub is_some_value : PureValue → Bool
is_some_value (some v) = true
is_some_value _ = false

abbrev pub is_composite : PureValue → Bool
is_composite (v.composite id n fs) = true
is_composite _ = false

-- a value with parts, or a reference
abbrev pub is_parted : PureValue → Bool
is_parted (v.array t vs) = true
is_parted (v.dictionary k t es) = true
is_parted (v.composite id n fs) = true
is_parted (v.reference a t to) = true
is_parted _ = false

abbrev pub is_lean_value : PureValue → Bool
is_lean_value (some v) = false
is_lean_value (v.array t vs) = false
is_lean_value (v.dictionary k t es) = false
is_lean_value (v.composite id n fs) = false
is_lean_value _ = true

-- a value without parts has no content either
abbrev pub is_lean : NodeShape → Bool
is_lean (plain v) = is_lean_value v
is_lean _ = true

abbrev pub is_array : NodeShape → Bool
is_array (array t) = true
is_array _ = false

abbrev pub is_dictionary : NodeShape → Bool
is_dictionary (dictionary k t ks) = true
is_dictionary _ = false

abbrev pub is_vacant : PlaceView → Bool
is_vacant vacant = true
is_vacant (taken l t) = false

abbrev pub IsNumberThere : Option Num → PlaceView → Type 0
IsNumberThere o vacant = ⊥
IsNumberThere o (taken l t) = o ≡ number_in_key (value_of t)

abbrev pub keys_in : NodeShape → List PureValue
keys_in (dictionary k t ks) = ks
keys_in _ = []

-- two dictionaries by their keys and what stands under them
abbrev pub equal_entries : List PureValue → Row → List PureValue → Row → Bool
equal_entries ks r ls q = (length (keys (keyed ks (values_in r))) == length (keys (keyed ls (values_in q)))) && all_under (keyed ks (values_in r)) (keyed ls (values_in q))

-- ---- the head of two nodes in equally many optionals

abbrev pub same_as_plain : PureValue → NodeShape → Bool
same_as_plain x (plain y) = equal x y
same_as_plain x _ = false

-- a case with this number is that node
abbrev pub same_as_composite : TypeId → Option Num → NodeShape → Row → Bool
same_as_composite x n (composite y j ns) q = same_case x n y (case_number (named_values ns (values_in q)))
same_as_composite x n _ q = false

abbrev pub elements_if : Bool → Head
elements_if true = h.Elements
elements_if false = h.Told false

abbrev pub entries_if : Bool → Head
entries_if true = h.Entries
entries_if false = h.Told false

abbrev pub head : NodeShape → Row → NodeShape → Row → Head
head (plain x) r z q = h.Told (same_as_plain x z)
head (link a l n) r z q = h.Told false
head (array t) r z q = elements_if (is_array z)
head (dictionary k t ks) r z q = entries_if (is_dictionary z)
head (composite x i ns) r z q = h.Told (same_as_composite x (case_number (named_values ns (values_in r))) z q)

-- ---- what a head says of the two values

abbrev pub Says : Head → List PureValue → Row → List PureValue → Row → Bool → Type 0
Says (h.Told is) ks r ls q x = is ≡ x
Says h.Elements ks r ls q x = equal_elements (values_in r) (values_in q) ≡ x
Says h.Entries ks r ls q x = equal_entries ks r ls q ≡ x

abbrev pub IsHead : Head → Tree → Tree → Type 0
IsHead it a b = Says it (keys_in a.shape) a.parts (keys_in b.shape) b.parts (same a b)

-- what stands in two places, where both are taken
abbrev pub same_place : PlaceView → PlaceView → Option Bool
same_place (taken l t) (taken m u) = Some (same t u)
same_place _ _ = None

-- there is a value for each key
abbrev pub are_entries : List PureValue → List PlaceView → Bool
are_entries ks ps = (length ks == length ps) && is_full (as_row ps)

-- what stands in a place is what stands under the key
abbrev pub Under : Bool → PlaceView → PureValue → Entries → Type 0
Under is vacant key fs = Unit {0}
Under is (taken l t) key fs = is ≡ is_so (equal (value_of t)) (under key fs)
