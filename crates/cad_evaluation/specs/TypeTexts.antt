-- The text that names a type.
use Rattle.std.specs.Prelude.{ℕ, Bool, true, false, List, [], ◌∷◌, ◌++◌}
use Rattle.std.specs.Prelude.{codes}
use Rattle.cad_syntax.specs.TypeIds.{type_text}
use Rattle.cad_syntax.specs.Types.{PureType, basic, optional, array, dictionary, intersection, declared, reference, capability, capability_of}
use Rattle.cad_syntax.specs.declared.kind.Kind.{Kind}
use Rattle.cad_syntax.specs.declared.kind.Kind.TheVariants as k
use Rattle.cad_syntax.specs.declared.type_id.TypeId.{TypeId}
use Rattle.cad_syntax.specs.declared.types.Authorization.{Authorization}
use Rattle.cad_syntax.specs.declared.types.Authorization.TheVariants.{Unauthorized, All, Any}
use Rattle.cad_syntax.specs.declared.types.Basic.{Basic}
use Rattle.cad_syntax.specs.declared.types.Basic.TheVariants as b

abbrev pub kind_text : Kind → List ℕ
kind_text k.Int = codes "Int"
kind_text k.Int8 = codes "Int8"
kind_text k.Int16 = codes "Int16"
kind_text k.Int32 = codes "Int32"
kind_text k.Int64 = codes "Int64"
kind_text k.Int128 = codes "Int128"
kind_text k.UInt = codes "UInt"
kind_text k.UInt8 = codes "UInt8"
kind_text k.UInt16 = codes "UInt16"
kind_text k.UInt32 = codes "UInt32"
kind_text k.UInt64 = codes "UInt64"
kind_text k.UInt128 = codes "UInt128"
kind_text k.Word8 = codes "Word8"
kind_text k.Word16 = codes "Word16"
kind_text k.Word32 = codes "Word32"
kind_text k.Word64 = codes "Word64"
kind_text k.Word128 = codes "Word128"
kind_text k.Fix64 = codes "Fix64"
kind_text k.UFix64 = codes "UFix64"
kind_text k.Address = codes "Address"

abbrev pub basic_text : Basic → List ℕ
basic_text (b.Number kind) = kind_text kind
basic_text b.Void = codes "Void"
basic_text b.Never = codes "Never"
basic_text b.Bool = codes "Bool"
basic_text b.Character = codes "Character"
basic_text b.String = codes "String"
basic_text b.Path = codes "Path"
basic_text b.StoragePath = codes "StoragePath"
basic_text b.PublicPath = codes "PublicPath"
basic_text b.Meta = codes "Type"
basic_text b.AnyStruct = codes "AnyStruct"
basic_text b.AnyResource = codes "AnyResource"
basic_text b.Account = codes "Account"
basic_text b.AccountStorage = codes "Account.Storage"
basic_text b.AccountContracts = codes "Account.Contracts"
basic_text b.AccountCapabilities = codes "Account.Capabilities"
basic_text b.AccountStorageCapabilities = codes "Account.StorageCapabilities"
basic_text b.StorageCapabilityController = codes "StorageCapabilityController"

-- the texts of identifiers, with a separator between
abbrev pub listed : List ℕ → List TypeId → List ℕ
listed separator [] = []
listed separator (id ∷ []) = type_text id
listed separator (id ∷ other ∷ ids) = type_text id ++ separator ++ listed separator (other ∷ ids)

abbrev pub authorization_text : Authorization → List ℕ
authorization_text Unauthorized = []
authorization_text (All ids) = codes "auth(" ++ listed (codes ",") ids ++ codes ")"
authorization_text (Any ids) = codes "auth(" ++ listed (codes "|") ids ++ codes ")"

abbrev pub is_optional : PureType → Bool
is_optional (optional t) = true
is_optional _ = false

-- a target that ends with `?` stands in parentheses
abbrev pub target_text : Bool → List ℕ → List ℕ
target_text true text = codes "(" ++ text ++ codes ")"
target_text false text = text

abbrev pub identifier : PureType → List ℕ
identifier (basic t) = basic_text t
identifier (optional t) = identifier t ++ codes "?"
identifier (array t) = codes "[" ++ identifier t ++ codes "]"
identifier (dictionary key value) = codes "{" ++ identifier key ++ codes ":" ++ identifier value ++ codes "}"
identifier (intersection ids) = codes "{" ++ listed (codes ",") ids ++ codes "}"
identifier (declared id) = type_text id
identifier (reference a t) = authorization_text a ++ codes "&" ++ target_text (is_optional t) (identifier t)
identifier capability = codes "Capability"
identifier (capability_of t) = codes "Capability<" ++ identifier t ++ codes ">"
