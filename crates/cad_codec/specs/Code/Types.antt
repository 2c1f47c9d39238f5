-- Reading types.
use Rattle.std.specs.Prelude.{ℕ, zero, suc, Bool, true, false, List, [], ◌∷◌, Option, Some, None, slice_get}
use Rattle.cad_syntax.specs.Types.{PureType, basic, optional, array, dictionary, intersection, declared, reference, capability, capability_of}
use Rattle.cad_syntax.specs.declared.kind.Kind.TheVariants as k
use Rattle.cad_syntax.specs.declared.type_id.TypeId.{TypeId}
use Rattle.cad_syntax.specs.declared.types.Authorization.{Authorization}
use Rattle.cad_syntax.specs.declared.types.Authorization.TheVariants as a
use Rattle.cad_syntax.specs.declared.types.Basic.{Basic}
use Rattle.cad_syntax.specs.declared.types.Basic.TheVariants as b
use Rattle.cad_wire.specs.Fields.{◌>>=◌, byte_at}
use Rattle.cad_codec.specs.declared.form.TypeForm.{TypeForm}
use Rattle.cad_codec.specs.declared.form.TypeForm.TheVariants as f
use Rattle.cad_codec.specs.Code.Fields.{At, then_at, made_at, found_at, tested_at, list_at, id_at}

-- the basic types in their order
abbrev pub basics : List Basic
basics = b.Number k.Int ∷ b.Number k.Int8 ∷ b.Number k.Int16 ∷ b.Number k.Int32 ∷ b.Number k.Int64 ∷ b.Number k.Int128
    ∷ b.Number k.UInt ∷ b.Number k.UInt8 ∷ b.Number k.UInt16 ∷ b.Number k.UInt32 ∷ b.Number k.UInt64 ∷ b.Number k.UInt128
    ∷ b.Number k.Word8 ∷ b.Number k.Word16 ∷ b.Number k.Word32 ∷ b.Number k.Word64 ∷ b.Number k.Word128
    ∷ b.Number k.Fix64 ∷ b.Number k.UFix64 ∷ b.Number k.Address
    ∷ b.Void ∷ b.Never ∷ b.Bool ∷ b.Character ∷ b.String ∷ b.Path ∷ b.StoragePath ∷ b.PublicPath ∷ b.Meta ∷ b.AnyStruct ∷ b.AnyResource
    ∷ b.Account ∷ b.AccountStorage ∷ b.AccountContracts ∷ b.AccountCapabilities ∷ b.AccountStorageCapabilities ∷ b.StorageCapabilityController ∷ []

abbrev pub type_forms : List TypeForm
type_forms = f.Basic ∷ f.Optional ∷ f.Array ∷ f.Dictionary ∷ f.Declared ∷ f.Intersection ∷ f.Reference ∷ f.CapabilityOf ∷ f.Capability ∷ []

abbrev pub basic_at : At Basic
basic_at = found_at byte_at (slice_get basics)

abbrev pub authorization_of : ℕ × List TypeId → Option Authorization
authorization_of (zero, []) = Some a.Unauthorized
authorization_of (zero, (id ∷ ids)) = None
authorization_of ((suc zero), ids) = Some (a.All ids)
authorization_of ((suc (suc zero)), ids) = Some (a.Any ids)
authorization_of ((suc (suc (suc n))), ids) = None

abbrev pub authorization_at : At Authorization
authorization_at = found_at (then_at byte_at (list_at id_at)) authorization_of

abbrev pub is_some_list : {A : Type 0} → List A → Bool
is_some_list [] = false
is_some_list (x ∷ xs) = true

-- the type of a form, whose parts are read so
abbrev pub type_after : At PureType → TypeForm → At PureType
type_after inner f.Basic = made_at basic_at basic
type_after inner f.Optional = made_at inner optional
type_after inner f.Array = made_at inner array
type_after inner f.Dictionary = made_at (then_at inner inner) (λ x. dictionary x.0 x.1)
type_after inner f.Declared = made_at id_at declared
type_after inner f.Intersection = made_at (tested_at (list_at id_at) is_some_list) intersection
type_after inner f.Reference = made_at (then_at authorization_at inner) (λ x. reference x.0 x.1)
type_after inner f.CapabilityOf = made_at inner capability_of
type_after inner f.Capability = λ bytes. Some (capability, bytes)

-- a type that nests less than so deep
unfoldable pub type_at : ℕ → At PureType
type_at zero bytes = None
type_at (suc left) bytes = found_at byte_at (slice_get type_forms) bytes >>= λ form. type_after (type_at left) form.0 form.1
