-- Which trees are those of values, as a test.
use Rattle.std.specs.Prelude.{ℕ, Bool, true, false, ◌&&◌, ◌==◌, List, [], ◌∷◌, length}
use Rattle.cad_rows.specs.Views.{PlaceView, vacant, taken}
use Rattle.cad_values.specs.Values.{PureValue, some}
use Rattle.cad_values.specs.Values as v
use Rattle.cad_world.specs.Rows.{NodeShape, plain, link, array, dictionary, composite, Row, stop, gap, node, Tree, count_places}

abbrev pub is_plain : PureValue → Bool
is_plain (some x) = false
is_plain (v.array t vs) = false
is_plain (v.dictionary k t es) = false
is_plain (v.composite id n fs) = false
is_plain _ = true

-- a value can have this shape over so many parts
abbrev pub has_parts : NodeShape → ℕ → Bool
has_parts (plain x) n = is_plain x && (n == 0)
has_parts (link a l m) n = false
has_parts (array t) n = true
has_parts (dictionary k t ks) n = length ks == n
has_parts (composite id i ns) n = length ns == n

abbrev pub none_named : List ℕ → Bool
none_named [] = true
none_named (l ∷ ls) = false

-- in each place there is the tree of a value, without labels
abbrev pub are_of_values : Row → Bool
are_of_values stop = true
are_of_values (gap r) = false
are_of_values (node l n s k r) = (none_named l && (has_parts s (count_places k) && are_of_values k)) && are_of_values r

abbrev pub is_of_value : Tree → Bool
is_of_value t = has_parts t.shape (count_places t.parts) && are_of_values t.parts

abbrev pub place_is_of_value : PlaceView → Bool
place_is_of_value vacant = false
place_is_of_value (taken l t) = none_named l && is_of_value t
