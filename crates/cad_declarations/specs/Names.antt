-- The names that are built in.
use Rattle.std.specs.Prelude.{ℕ, Bool, ◌==◌, Option, None, List, [], ◌∷◌, codes, find, option_map, if◌then◌else◌}
use Rattle.std.specs.Cmp.Lexicographic.{pointwise}
use Rattle.std.specs.List.{list_any}
use Rattle.cad_syntax.specs.declared.text.Name.{Name}
use Rattle.cad_syntax.specs.declared.kind.Kind.TheVariants as k
use Rattle.cad_syntax.specs.declared.type_id.TypeId.{TypeId}
use Rattle.cad_syntax.specs.declared.types.Basic.{Basic}
use Rattle.cad_syntax.specs.declared.types.Basic.TheVariants as b

-- whether a name is spelled so
abbrev pub is_spelled : List ℕ → Name → Bool
is_spelled text name = pointwise ◌==◌ name.0 text

-- whether two names are one
abbrev pub same_name : Name → Name → Bool
same_name a b = is_spelled b.0 a

-- whether a name is one of a list
abbrev pub has_name : List Name → Name → Bool
has_name names name = list_any (λ other. same_name other name) names

-- a basic type and its name
pub record BasicName : Type 0 where
  pub text : List ℕ
  pub type : Basic

abbrev pub named_so : List ℕ → Basic → BasicName
named_so text type = record { text = text; type = type }

-- the basic types of one name
abbrev pub basic_names : List BasicName
basic_names =
    named_so (codes "Int") (b.Number k.Int) ∷ named_so (codes "Int8") (b.Number k.Int8)
    ∷ named_so (codes "Int16") (b.Number k.Int16) ∷ named_so (codes "Int32") (b.Number k.Int32)
    ∷ named_so (codes "Int64") (b.Number k.Int64) ∷ named_so (codes "Int128") (b.Number k.Int128)
    ∷ named_so (codes "UInt") (b.Number k.UInt) ∷ named_so (codes "UInt8") (b.Number k.UInt8)
    ∷ named_so (codes "UInt16") (b.Number k.UInt16) ∷ named_so (codes "UInt32") (b.Number k.UInt32)
    ∷ named_so (codes "UInt64") (b.Number k.UInt64) ∷ named_so (codes "UInt128") (b.Number k.UInt128)
    ∷ named_so (codes "Word8") (b.Number k.Word8) ∷ named_so (codes "Word16") (b.Number k.Word16)
    ∷ named_so (codes "Word32") (b.Number k.Word32) ∷ named_so (codes "Word64") (b.Number k.Word64)
    ∷ named_so (codes "Word128") (b.Number k.Word128) ∷ named_so (codes "Fix64") (b.Number k.Fix64)
    ∷ named_so (codes "UFix64") (b.Number k.UFix64) ∷ named_so (codes "Address") (b.Number k.Address)
    ∷ named_so (codes "Void") b.Void ∷ named_so (codes "Never") b.Never ∷ named_so (codes "Bool") b.Bool
    ∷ named_so (codes "Character") b.Character ∷ named_so (codes "String") b.String ∷ named_so (codes "Path") b.Path
    ∷ named_so (codes "StoragePath") b.StoragePath ∷ named_so (codes "PublicPath") b.PublicPath
    ∷ named_so (codes "Type") b.Meta ∷ named_so (codes "AnyStruct") b.AnyStruct
    ∷ named_so (codes "AnyResource") b.AnyResource ∷ named_so (codes "Account") b.Account
    ∷ named_so (codes "StorageCapabilityController") b.StorageCapabilityController ∷ []

-- the parts of an account, whose names stand behind `Account.`
abbrev pub account_part_names : List BasicName
account_part_names =
    named_so (codes "Storage") b.AccountStorage ∷ named_so (codes "Contracts") b.AccountContracts
    ∷ named_so (codes "Capabilities") b.AccountCapabilities
    ∷ named_so (codes "StorageCapabilities") b.AccountStorageCapabilities ∷ []

-- the first type with this name
abbrev pub type_named : List BasicName → Name → Option Basic
type_named names name = option_map (λ n. n.type) (find (λ n. is_spelled n.text name) names)

-- the basic type that a written name is
abbrev pub basic_type : List Name → Option Basic
basic_type [] = None
basic_type (name ∷ []) = type_named basic_names name
basic_type (name ∷ part ∷ []) = if is_spelled (codes "Account") name then type_named account_part_names part else None
basic_type (name ∷ part ∷ other ∷ more) = None

-- the names of the built-in entitlements
abbrev pub entitlement_names : List (List ℕ)
entitlement_names =
    codes "Mutate" ∷ codes "Insert" ∷ codes "Remove"
    ∷ codes "Storage" ∷ codes "SaveValue" ∷ codes "LoadValue" ∷ codes "CopyValue" ∷ codes "BorrowValue"
    ∷ codes "Contracts" ∷ codes "AddContract" ∷ codes "UpdateContract" ∷ codes "RemoveContract"
    ∷ codes "Capabilities" ∷ codes "PublishCapability" ∷ codes "UnpublishCapability"
    ∷ codes "StorageCapabilities" ∷ codes "IssueStorageCapabilityController" ∷ codes "GetStorageCapabilityController"
    ∷ codes "AccountCapabilities" ∷ codes "Keys" ∷ codes "Inbox" ∷ []

abbrev pub is_entitlement_name : Name → Bool
is_entitlement_name name = list_any (λ text. is_spelled text name) entitlement_names

-- what is built in has address 0 and its one name
abbrev pub built_in_as : Name → TypeId
built_in_as name = record { address = record { 0 = 0 }; names = name ∷ [] }

abbrev pub built_in : List ℕ → TypeId
built_in text = built_in_as (record { 0 = text })

-- the built-in mapping
abbrev pub identity_mapping : TypeId
identity_mapping = built_in (codes "Identity")
