-- A type without where its parts lie in memory.
use Rattle.std.specs.Prelude.{ℕ, ◌+◌, List, max}
use Rattle.cad_syntax.specs.declared.type_id.TypeId.{TypeId}
use Rattle.cad_syntax.specs.declared.types.Basic.{Basic}
use Rattle.cad_syntax.specs.declared.types.Authorization.{Authorization}
use Rattle.cad_syntax.specs.declared.types.CadType as code

pub data PureType : Type 0 where
  basic : Basic → PureType
  optional : PureType → PureType
  array : PureType → PureType
  dictionary : PureType → PureType → PureType
  intersection : List TypeId → PureType
  declared : TypeId → PureType
  reference : Authorization → PureType → PureType
  capability : PureType
  capability_of : PureType → PureType

abbrev pub pure_type : code.CadType → PureType
pure_type (code.Basic b) = basic b
pure_type (code.Optional' p t) = optional (pure_type t)
pure_type (code.Array' p t) = array (pure_type t)
pure_type (code.Dictionary' p k q v) = dictionary (pure_type k) (pure_type v)
pure_type (code.Intersection ids) = intersection ids
pure_type (code.Declared id) = declared id
pure_type (code.Reference' a p t) = reference a (pure_type t)
pure_type code.Capability = capability
pure_type (code.CapabilityOf' p t) = capability_of (pure_type t)

-- how many optionals, arrays, dictionaries, references and capabilities stand one inside the other
abbrev pub nesting : PureType → ℕ
nesting (basic b) = 0
nesting (optional t) = nesting t + 1
nesting (array t) = nesting t + 1
nesting (dictionary k v) = max (nesting k) (nesting v) + 1
nesting (intersection ids) = 0
nesting (declared id) = 0
nesting (reference a t) = nesting t + 1
nesting capability = 0
nesting (capability_of t) = nesting t + 1
