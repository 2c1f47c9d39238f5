-- Bytes as they stand in places.
use Rattle.std.specs.Prelude.{ℕ, zero, suc, Bool, true, false, [], Option, None}
use Rattle.cad_syntax.specs.declared.num.Num.{Num}
use Rattle.cad_rows.specs.Views.{PlaceView, vacant, taken}
use Rattle.cad_world.specs.Rows.{NodeShape, array, Tree}
use Rattle.cad_evaluation.specs.Numbers.{number_tree}
use Rattle.cad_evaluation.specs.Texts.{byte_of}

-- the place of a number that nothing has named
abbrev pub number_place : Num → PlaceView
number_place x = taken [] (number_tree x)

abbrev pub byte_in : PlaceView → Option ℕ
byte_in vacant = None
byte_in (taken l t) = byte_of t.optionals t.shape

abbrev pub is_array_shape : NodeShape → Bool
is_array_shape (array t) = true
is_array_shape _ = false

abbrev pub is_array_by : ℕ → NodeShape → Bool
is_array_by zero shape = is_array_shape shape
is_array_by (suc n) shape = false

abbrev pub is_array_in : Tree → Bool
is_array_in t = is_array_by t.optionals t.shape
