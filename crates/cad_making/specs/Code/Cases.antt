-- Cases of enums by their numbers.
use Rattle.std.specs.Prelude.{ℕ, nat_lt, [], ◌∷◌, Option, Some, None, option_map, option_and_then, ℤ, pos, negsuc, if◌then◌else◌}
use Rattle.cad_syntax.specs.declared.num.Num.{Num}
use Rattle.cad_syntax.specs.declared.type_id.TypeId.{TypeId}
use Rattle.cad_declarations.specs.Tables.{TypeEntry}
use Rattle.cad_world.specs.Declared.{entry_of}
use Rattle.cad_world.specs.Rows.{composite, stop, first, Tree}
use Rattle.cad_world.specs.Shapes.{raw_name}
use Rattle.cad_world.specs.State.{Action, give, with_some}
use Rattle.cad_world.specs.Trees.{whole, wrapped, nil_tree}
use Rattle.cad_evaluation.specs.Making.{case_of, case_at}
use Rattle.cad_evaluation.specs.Numbers.{number_tree}

-- the case with this number in its field
abbrev pub case_of_number : TypeId → Num → Tree
case_of_number id x = whole (composite id 0 (raw_name ∷ [])) (first (number_tree x) stop)

-- an integer as one of this many, counted from 0
abbrev pub number_below : ℕ → ℤ → Option ℕ
number_below count (pos n) = if nat_lt n count then Some n else None
number_below count (negsuc n) = None

-- the case of this number in an optional; nil of none
abbrev pub case_by : TypeEntry → Option ℕ → Option Tree
case_by entry None = Some nil_tree
case_by entry (Some n) = option_map wrapped (case_of entry n)

-- the case of the enum with this number in an optional, or nil
abbrev pub case_from_integer : TypeId → ℤ → Action Tree
case_from_integer id z = λ s. with_some (option_and_then (λ entry. case_at entry z) (entry_of s id)) give s
