-- What types values of a form can have as arguments, without AnyStruct.
use Rattle.std.proofs.Common.{◌≡◌, ℕ, Bool, true, false, List, [], ◌∷◌, map, Option, Some, None, option_map, cond, refl, sym, ap, ◌∙◌, subst}
use Rattle.std.specs.Prelude.{◌&&◌, not}
use Rattle.serde_json.specs.Data.{Items}
use Rattle.cad_syntax.specs.TypeIds.{same_id}
use Rattle.cad_syntax.specs.Types.{PureType, basic, optional, array, dictionary, intersection, declared, reference, capability, capability_of}
use Rattle.cad_syntax.specs.declared.kind.Kind.TheVariants as n
use Rattle.cad_syntax.specs.declared.type_id.TypeId.{TypeId}
use Rattle.cad_syntax.specs.declared.types.Authorization.{Authorization}
use Rattle.cad_syntax.specs.declared.types.Basic.TheVariants as b
use Rattle.cad_syntax.proofs.Same.{ids_tell}
use Rattle.cad_types.specs.Below.{below}
use Rattle.cad_types.specs.Classes.{is_data_sort}
use Rattle.cad_types.specs.Declarations.{Declaration, found}
use Rattle.cad_types.specs.declared.declared.Sort.{Sort}
use Rattle.cad_types.specs.declared.declared.Sort.TheVariants as s
use Rattle.cad_values.specs.Fits.{HasIdentity}
use Rattle.cad_values.specs.Shapes.{Shape, declaration, shape_in}
use Rattle.cad_json.specs.Told.{with_uuid}
use Rattle.cad_json_laws.specs.Whole.{told_rule}

pub no_void : (k : List Declaration) (class : PureType → Bool) (want : PureType) → told_rule k class want ≡ true → below k (basic b.Void) want ≡ true → ⊥
no_void k class (basic b.AnyStruct) rule low = absurd cc
no_void k class (basic (b.Number n.Int)) rule low = absurd cc
no_void k class (basic (b.Number _)) rule low = absurd cc
no_void k class (basic _) rule low = absurd cc
no_void k class _ rule low = absurd cc

pub no_meta : (k : List Declaration) (class : PureType → Bool) (want : PureType) → told_rule k class want ≡ true → below k (basic b.Meta) want ≡ true → ⊥
no_meta k class (basic b.AnyStruct) rule low = absurd cc
no_meta k class (basic (b.Number n.Int)) rule low = absurd cc
no_meta k class (basic (b.Number _)) rule low = absurd cc
no_meta k class (basic _) rule low = absurd cc
no_meta k class _ rule low = absurd cc

pub no_capability : (k : List Declaration) (class : PureType → Bool) (lent want : PureType) → told_rule k class want ≡ true → below k (capability_of lent) want ≡ true → ⊥
no_capability k class lent (basic b.AnyStruct) rule low = absurd cc
no_capability k class lent (basic _) rule low = absurd cc
no_capability k class lent _ rule low = absurd cc

pub no_reference : (k : List Declaration) (class : PureType → Bool) (a : Authorization) (target want : PureType) → told_rule k class want ≡ true → below k (reference a target) want ≡ true → ⊥
no_reference k class a target (basic b.AnyStruct) rule low = absurd cc
no_reference k class a target (basic _) rule low = absurd cc
no_reference k class a target _ rule low = absurd cc

-- an optional stands where an optional is expected
pub optional_wanted : (k : List Declaration) (class : PureType → Bool) (t want : PureType) → told_rule k class want ≡ true → below k (optional t) want ≡ true → (u : PureType) × (want ≡ optional u) × (below k t u ≡ true) × (class u ≡ true)
optional_wanted k class t (optional u) rule low = (u, refl, low, rule)
optional_wanted k class t (basic b.AnyStruct) rule low = absurd cc
optional_wanted k class t (basic _) rule low = absurd cc
optional_wanted k class t _ rule low = absurd cc

-- a composite stands where its own type is expected
pub declared_wanted : (k : List Declaration) (class : PureType → Bool) (id : TypeId) (want : PureType) → told_rule k class want ≡ true → below k (declared id) want ≡ true → want ≡ declared id
declared_wanted k class id (declared other) rule low = ap declared (sym ((ids_tell id other).0 low))
declared_wanted k class id (basic b.AnyStruct) rule low = absurd cc
declared_wanted k class id (basic _) rule low = absurd cc
declared_wanted k class id _ rule low = absurd cc

-- the declaration of an identifier is that of its shape
pub found_shape : (shapes : List Shape) (id : TypeId) → found (map declaration shapes) id ≡ option_map declaration (shape_in shapes id)
found_shape [] id = refl
found_shape (s ∷ shapes) id = go (same_id s.id id) (found_shape shapes id)
  where
    go : (b : Bool) → found (map declaration shapes) id ≡ option_map declaration (shape_in shapes id)
        → cond b (Some (declaration s)) (found (map declaration shapes) id) ≡ option_map declaration (cond b (Some s) (shape_in shapes id))
    go true rest = refl
    go false rest = rest

-- structs and enums have identity 0, which isn't told
pub no_identity : (sort : Sort) (n : ℕ) → is_data_sort sort ≡ true → HasIdentity sort n → n ≡ 0
no_identity s.Struct n data_sort is = is
no_identity s.Enum n data_sort is = is
no_identity _ n data_sort is = absurd cc

pub no_uuid : (sort : Sort) (n : ℕ) (told : Items) → is_data_sort sort ≡ true → with_uuid sort n told ≡ told
no_uuid s.Struct n told data_sort = refl
no_uuid s.Enum n told data_sort = refl
no_uuid _ n told data_sort = absurd cc
