-- Which values are of a type.
use Rattle.std.specs.Prelude.{◌≡◌, ◌≢◌, ℕ, ◌≤◌, Bool, true, false, List, [], ◌∷◌, Option, Some, None, length, not, ◌&&◌, nat_lt}
use Rattle.std.specs.Str.{IsUtf8}
use Rattle.cad_syntax.specs.Types.{PureType}
use Rattle.cad_syntax.specs.Types as t
use Rattle.cad_syntax.specs.declared.kind.Kind.TheVariants.{Address}
use Rattle.cad_syntax.specs.declared.type_id.TypeId.{TypeId}
use Rattle.cad_text.specs.Texts.{characters, most_bytes}
use Rattle.cad_types.specs.Sub.{Sub}
use Rattle.cad_types.specs.declared.declared.Sort.{Sort}
use Rattle.cad_types.specs.declared.declared.Sort.TheVariants as s
use Rattle.cad_values.specs.Keys.{KeysDiffer}
use Rattle.cad_values.specs.Shapes.{Shape, ShapeField, Shapes, declarations, shape_of, shape_fields, is_type, is_reference_type, is_enum, is_event}
use Rattle.cad_values.specs.Types.{type_of_value}
use Rattle.cad_values.specs.Values.{PureValue, some, number, string, character, meta, capability, array, dictionary, composite, reference, Values, no_values, values, Entries, no_entries, entries, keys, elements, Fields, no_fields, fields}

-- the most elements of a container
abbrev pub most_elements : ℕ
most_elements = 65536

-- one extended grapheme cluster
abbrev pub IsCharacter : List ℕ → Type 0
IsCharacter text = length (characters text) ≡ 1

-- the sorts of values: structs, resources and enums
abbrev pub is_value_sort : Sort → Bool
is_value_sort s.Struct = true
is_value_sort s.Resource = true
is_value_sort s.Enum = true
is_value_sort _ = false

-- what isn't a resource has identity 0
abbrev pub HasIdentity : Sort → ℕ → Type 0
HasIdentity s.Resource n = Unit {0}
HasIdentity _ n = n ≡ 0

-- the number of a case, counted from 0
abbrev pub is_case : Shape → PureValue → Bool
is_case shape (number n) = not n.negative && nat_lt n.magnitude shape.cases
is_case shape _ = false

-- of an enum, its one field is the number of one of its cases
abbrev pub HasCase : Shape → Fields → Type 0
HasCase shape (fields n v no_fields) = is_enum shape.sort ≡ true → is_case shape v ≡ true
HasCase shape _ = is_enum shape.sort ≡ false

-- a composite with this identity and these fields can be of this shape, if the fields are of their types
abbrev pub IsOf : (Sort → Bool) → ℕ → Fields → Option Shape → Type 0
IsOf sorts n fs None = ⊥
IsOf sorts n fs (Some shape) = (sorts shape.sort ≡ true) × HasIdentity shape.sort n × HasCase shape fs

-- the value's own type is below that one
abbrev pub IsBelow : Shapes → PureValue → PureType → Type 0
IsBelow k v want = Sub (declarations k) (type_of_value v) want

abbrev mutual
  -- All in a value is as its own type says. A composite's sort passes the test.
  pub Holds : Shapes → (Sort → Bool) → PureValue → Type 0
  Holds k sorts (some v) = Holds k is_value_sort v
  Holds k sorts (number n) = n.kind ≢ Address
  Holds k sorts (string text) = IsUtf8 text × (length text ≤ most_bytes)
  Holds k sorts (character text) = IsUtf8 text × IsCharacter text
  Holds k sorts (meta t) = is_type k t ≡ true
  Holds k sorts (capability a n lent) = (is_reference_type lent ≡ true) × (is_type k lent ≡ true)
  Holds k sorts (array element vs) = (is_type k element ≡ true) × (length (elements vs) ≤ most_elements) × AllFit k element vs
  Holds k sorts (dictionary key value es) = (is_type k (t.dictionary key value) ≡ true) × (length (keys es) ≤ most_elements) × KeysDiffer (keys es) × EntriesFit k key value es
  Holds k sorts (composite id n fs) = IsOf sorts n fs (shape_of k id) × FieldsFit k (shape_fields (shape_of k id)) fs
  Holds k sorts (reference authorization target to) = is_type k (t.reference authorization target) ≡ true
  Holds k sorts _ = Unit {0}

  pub AllFit : Shapes → PureType → Values → Type 0
  AllFit k want no_values = Unit {0}
  AllFit k want (values v vs) = IsBelow k v want × Holds k is_value_sort v × AllFit k want vs

  pub EntriesFit : Shapes → PureType → PureType → Entries → Type 0
  EntriesFit k key value no_entries = Unit {0}
  EntriesFit k key value (entries x v es) = IsBelow k x key × Holds k is_value_sort x × IsBelow k v value × Holds k is_value_sort v × EntriesFit k key value es

  -- exactly the declared fields, in order
  pub FieldsFit : Shapes → List ShapeField → Fields → Type 0
  FieldsFit k [] no_fields = Unit {0}
  FieldsFit k (f ∷ all) (fields n v fs) = (n ≡ f.name) × IsBelow k v f.is × Holds k is_value_sort v × FieldsFit k all fs
  FieldsFit k _ _ = ⊥

-- Fits k v want: v is a value of this type.
abbrev pub Fits : Shapes → PureValue → PureType → Type 0
Fits k v want = IsBelow k v want × Holds k is_value_sort v

-- the value of a contract, and an event: themselves of another sort, with parts that are values
abbrev pub is_contract : Sort → Bool
is_contract s.Contract = true
is_contract _ = false

abbrev pub FitsContract : Shapes → PureValue → TypeId → Type 0
FitsContract k v id = (type_of_value v ≡ t.declared id) × Holds k is_contract v

abbrev pub FitsEvent : Shapes → PureValue → TypeId → Type 0
FitsEvent k v id = (type_of_value v ≡ t.declared id) × Holds k is_event v
