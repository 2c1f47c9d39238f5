-- Which values are told in full.
use Rattle.std.specs.Prelude.{◌≡◌, ◌≤◌, Bool, true, false, not, ◌&&◌, List, [], ◌∷◌, Some}
use Rattle.cad_codec.specs.Ranges.{InRange}
use Rattle.cad_syntax.specs.TypeIds.{HasNames}
use Rattle.cad_syntax.specs.Types.{PureType, basic, optional}
use Rattle.cad_syntax.specs.Types as t
use Rattle.cad_syntax.specs.declared.type_id.TypeId.{TypeId}
use Rattle.cad_syntax.specs.declared.types.Basic.TheVariants as b
use Rattle.cad_types.specs.Classes.{InGreatest, importable_rule}
use Rattle.cad_types.specs.Declarations.{Declaration}
use Rattle.cad_values.specs.Fits.{Fits}
use Rattle.cad_values.specs.Shapes.{Shape, ShapeField, Shapes, declarations, shape_of, shape_fields}
use Rattle.cad_values.specs.Sizes.{height, most_high}
use Rattle.cad_values.specs.Values as v
use Rattle.cad_values.specs.Values.{PureValue, Values, no_values, values, Entries, no_entries, entries, Fields, no_fields, fields}

abbrev pub is_any_struct : PureType → Bool
is_any_struct (basic b.AnyStruct) = true
is_any_struct _ = false

-- when arguments can have a type with no AnyStruct in it, by which types inside it are so
abbrev pub told_rule : List Declaration → (PureType → Bool) → PureType → Bool
told_rule k inside t = not (is_any_struct t) && importable_rule k inside t

-- arguments can have the type, and no AnyStruct is in it
abbrev pub IsToldType : List Declaration → PureType → Type 0
IsToldType k = InGreatest (told_rule k)

abbrev pub content : PureType → PureType
content (optional t) = t
content t = t

-- Each array and dictionary in a value is of exactly the type that its place declares.
abbrev mutual
  pub IsExact : Shapes → PureValue → PureType → Type 0
  IsExact k (v.some x) want = IsExact k x (content want)
  IsExact k (v.array element vs) want = (want ≡ t.array element) × AllExact k vs element
  IsExact k (v.dictionary key value es) want = (want ≡ t.dictionary key value) × EntriesExact k es key value
  IsExact k (v.composite id n fs) want = FieldsExact k fs (shape_fields (shape_of k id))
  IsExact k _ want = Unit {0}

  pub AllExact : Shapes → Values → PureType → Type 0
  AllExact k no_values want = Unit {0}
  AllExact k (values x vs) want = IsExact k x want × AllExact k vs want

  pub EntriesExact : Shapes → Entries → PureType → PureType → Type 0
  EntriesExact k no_entries key want = Unit {0}
  EntriesExact k (entries x y es) key want = IsExact k x key × IsExact k y want × EntriesExact k es key want

  pub FieldsExact : Shapes → Fields → List ShapeField → Type 0
  FieldsExact k (fields n x fs) (f ∷ declared) = IsExact k x f.is × FieldsExact k fs declared
  FieldsExact k _ _ = Unit {0}

-- the names of declared types are names of programs
abbrev pub AreNamed : Shapes → Type 0
AreNamed k = (id : TypeId) (shape : Shape) → shape_of k id ≡ Some shape → HasNames id

-- IsWhole k want x: x is a value of this type, which arguments can have and which has no AnyStruct in it; its containers are
-- of exactly the types of their places. What was written as bytes is in range.
pub record IsWhole (k : Shapes) (want : PureType) (x : PureValue) : Type 0 where
  pub told_type : IsToldType (declarations k) want
  pub fits : Fits k x want
  pub exact : IsExact k x want
  pub low : height x ≤ most_high
  pub in_range : InRange x
  pub named : AreNamed k
