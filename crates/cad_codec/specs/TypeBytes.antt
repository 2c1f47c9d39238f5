-- Types as bytes.
use Rattle.std.specs.Prelude.{ℕ, List, [], ◌∷◌, ◌++◌, length}
use Rattle.std.specs.List.{flat_map}
use Rattle.cad_number_codec.specs.Spelling.{kind_byte}
use Rattle.cad_syntax.specs.Types.{PureType, basic, optional, array, dictionary, intersection, declared, reference, capability, capability_of}
use Rattle.cad_syntax.specs.declared.text.Name.{Name}
use Rattle.cad_syntax.specs.declared.type_id.TypeId.{TypeId}
use Rattle.cad_syntax.specs.declared.types.Authorization.{Authorization}
use Rattle.cad_syntax.specs.declared.types.Authorization.TheVariants as a
use Rattle.cad_syntax.specs.declared.types.Basic.{Basic}
use Rattle.cad_syntax.specs.declared.types.Basic.TheVariants as b
use Rattle.cad_wire.specs.Fields.{number_field, length_field, bytes_field}

-- a basic type's place in their order, the kinds of numbers first
abbrev pub basic_byte : Basic → ℕ
basic_byte (b.Number kind) = kind_byte kind
basic_byte b.Void = 20
basic_byte b.Never = 21
basic_byte b.Bool = 22
basic_byte b.Character = 23
basic_byte b.String = 24
basic_byte b.Path = 25
basic_byte b.StoragePath = 26
basic_byte b.PublicPath = 27
basic_byte b.Meta = 28
basic_byte b.AnyStruct = 29
basic_byte b.AnyResource = 30
basic_byte b.Account = 31
basic_byte b.AccountStorage = 32
basic_byte b.AccountContracts = 33
basic_byte b.AccountCapabilities = 34
basic_byte b.AccountStorageCapabilities = 35
basic_byte b.StorageCapabilityController = 36

-- a number: 8 bytes
unfoldable pub word : ℕ → List ℕ
word n = number_field n

-- a list: its length, and the bytes of its members
unfoldable pub counted : ℕ → List ℕ → List ℕ
counted n members = length_field n ++ members

abbrev pub name_field : Name → List ℕ
name_field name = bytes_field name.0

-- the address, and the list of the names
unfoldable pub id_bytes : TypeId → List ℕ
id_bytes id = word id.address.0 ++ counted (length id.names) (flat_map name_field id.names)

abbrev pub ids_field : List TypeId → List ℕ
ids_field ids = counted (length ids) (flat_map id_bytes ids)

-- 0 for none, 1 for all and 2 for any, and the list of the entitlements
abbrev pub authorization_bytes : Authorization → List ℕ
authorization_bytes a.Unauthorized = 0 ∷ ids_field []
authorization_bytes (a.All ids) = 1 ∷ ids_field ids
authorization_bytes (a.Any ids) = 2 ∷ ids_field ids

abbrev pub type_bytes : PureType → List ℕ
type_bytes (basic t) = 0 ∷ basic_byte t ∷ []
type_bytes (optional t) = 1 ∷ type_bytes t
type_bytes (array t) = 2 ∷ type_bytes t
type_bytes (dictionary k t) = 3 ∷ (type_bytes k ++ type_bytes t)
type_bytes (declared id) = 4 ∷ id_bytes id
type_bytes (intersection ids) = 5 ∷ ids_field ids
type_bytes (reference authorization t) = 6 ∷ (authorization_bytes authorization ++ type_bytes t)
type_bytes (capability_of t) = 7 ∷ type_bytes t
type_bytes capability = 8 ∷ []
