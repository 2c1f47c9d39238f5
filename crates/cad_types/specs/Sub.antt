-- The order of types.
use Rattle.std.specs.Prelude.{◌≡◌, Bool, true, false, ◌⊎◌, List, Contains}
use Rattle.cad_syntax.specs.Types.{PureType, basic, optional, array, dictionary, intersection, declared, reference, capability, capability_of}
use Rattle.cad_syntax.specs.declared.type_id.TypeId.{TypeId}
use Rattle.cad_syntax.specs.declared.types.Authorization.{Authorization}
use Rattle.cad_syntax.specs.declared.types.Basic.TheVariants as b
use Rattle.cad_auth.specs.Grants.{Grants}
use Rattle.cad_types.specs.Declarations.{Declaration, interfaces_of, resource}

abbrev pub is_optional : PureType → Bool
is_optional (optional t) = true
is_optional _ = false

-- one of these interfaces is that interface, or has it
abbrev pub HasInterface : List Declaration → List TypeId → TypeId → Type 0
HasInterface k ids id = (i : TypeId) × Contains ids i × ((i ≡ id) ⊎ Contains (interfaces_of k i) id)

-- Sub k t u: t is below u. An intersection stands for resources where its interfaces are of resources; what is below it is
-- so too.
pub data Sub (k : List Declaration) : PureType → PureType → Type 0 where
  same : {t : PureType} → Sub k t t
  through : {t u v : PureType} → Sub k t u → Sub k u v → Sub k t v
  never : {t : PureType} → Sub k (basic b.Never) t
  optionals : {t u : PureType} → Sub k t u → Sub k (optional t) (optional u)
  arrays : {t u : PureType} → Sub k t u → Sub k (array t) (array u)
  dictionaries : {p q t u : PureType} → Sub k p q → Sub k t u → Sub k (dictionary p t) (dictionary q u)
  conforms : {id : TypeId} {ids : List TypeId} → resource k (declared id) ≡ resource k (intersection ids) → ((i : TypeId) → Contains ids i → Contains (interfaces_of k id) i) → Sub k (declared id) (intersection ids)
  narrower : {these those : List TypeId} → resource k (intersection these) ≡ resource k (intersection those) → ((i : TypeId) → Contains those i → HasInterface k these i) → Sub k (intersection these) (intersection those)
  any_struct : {t : PureType} → resource k t ≡ false → Sub k t (basic b.AnyStruct)
  any_resource : {t : PureType} → resource k t ≡ true → is_optional t ≡ false → Sub k t (basic b.AnyResource)
  references : {x y : Authorization} {t u : PureType} → Grants x y → Sub k t u → Sub k (reference x t) (reference y u)
  capability_untyped : {t : PureType} → Sub k (capability_of t) capability
  capabilities : {t u : PureType} → Sub k t u → Sub k (capability_of t) (capability_of u)
  storage_path : Sub k (basic b.StoragePath) (basic b.Path)
  public_path : Sub k (basic b.PublicPath) (basic b.Path)
