-- The steps in which an element is read.
use Rattle.std.specs.Prelude.{ℕ, ℤ, Option}
use Rattle.cad_syntax.specs.Types.{PureType}
use Rattle.cad_syntax.specs.declared.types.Authorization.{Authorization}
use Rattle.cad_world.specs.Locations.{element, element_of}
use Rattle.cad_world.specs.Rows.{array, Row, Tree}
use Rattle.cad_world.specs.State.{Action, ◌>>=◌, with_some}
use Rattle.cad_evaluation.specs.Numbers.{integer_in}
use Rattle.cad_evaluation.specs.Reading.{read_element}

-- at an integer of an array with elements of this type
abbrev pub read_at_integer : Option Authorization → PureType → ℕ → ℤ → Row → Action Tree
read_at_integer rights type l i r = element_of i (array type) r >>= read_element rights type (element l i)

-- at an index
abbrev pub read_at_index : Option Authorization → PureType → ℕ → Tree → Row → Action Tree
read_at_index rights type l index r = with_some (integer_in index) (λ i. read_at_integer rights type l i r)
