-- Cases of enums by their numbers.
use Rattle.std.specs.Prelude.{Bool, false, ◌&&◌, Option, Some, None}
use Rattle.cad_syntax.specs.TypeIds.{same_id}
use Rattle.cad_syntax.specs.declared.num.Num.{Num}
use Rattle.cad_syntax.specs.declared.type_id.TypeId.{TypeId}
use Rattle.cad_values.specs.Values.{PureValue, number, composite, Fields, no_fields, fields}
use Rattle.cad_world.specs.Same.{same_number}

-- the number that a value is
abbrev pub number_in_key : PureValue → Option Num
number_in_key (number x) = Some x
number_in_key _ = None

-- the number in the one field
abbrev pub case_number : Fields → Option Num
case_number (fields n v no_fields) = number_in_key v
case_number _ = None

abbrev pub same_case : TypeId → Option Num → TypeId → Option Num → Bool
same_case x (Some v) y (Some w) = same_id x y && same_number v w
same_case x n y m = false

-- a case with this number is that value
abbrev pub same_as_case : TypeId → Option Num → PureValue → Bool
same_as_case x n (composite y i fs) = same_case x n y (case_number fs)
same_as_case x n _ = false
