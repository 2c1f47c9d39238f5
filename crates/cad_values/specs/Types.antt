-- The own type of a value.
use Rattle.cad_syntax.specs.Types.{PureType, basic, optional, declared}
use Rattle.cad_syntax.specs.Types as t
use Rattle.cad_syntax.specs.declared.address.Domain.{Domain}
use Rattle.cad_syntax.specs.declared.address.Domain.TheVariants as d
use Rattle.cad_syntax.specs.declared.kind.Kind.TheVariants as k
use Rattle.cad_syntax.specs.declared.types.Basic.TheVariants as b
use Rattle.cad_values.specs.Values.{PureValue, void, nil, some, bool, number, string, character, address, path, meta, capability, array, dictionary, composite, reference}

-- the type of the paths into a domain
abbrev pub path_type : Domain → PureType
path_type d.Storage = basic b.StoragePath
path_type d.Public = basic b.PublicPath

-- nil is of type `Never?`
abbrev pub type_of_value : PureValue → PureType
type_of_value void = basic b.Void
type_of_value nil = optional (basic b.Never)
type_of_value (some v) = optional (type_of_value v)
type_of_value (bool x) = basic b.Bool
type_of_value (number n) = basic (b.Number n.kind)
type_of_value (string text) = basic b.String
type_of_value (character text) = basic b.Character
type_of_value (address a) = basic (b.Number k.Address)
type_of_value (path p) = path_type p.domain
type_of_value (meta t) = basic b.Meta
type_of_value (capability a n lent) = t.capability_of lent
type_of_value (array element vs) = t.array element
type_of_value (dictionary key value es) = t.dictionary key value
type_of_value (composite id n fs) = declared id
type_of_value (reference a target to) = t.reference a target
