-- Which values are of a type, but for that keys differ, as a test.
use Rattle.std.specs.Prelude.{ℕ, Bool, true, false, not, ◌&&◌, ◌||◌, ◌==◌, nat_le, nat_lt, List, [], ◌∷◌, length, Option, Some, None}
use Rattle.std.specs.Str.{is_utf8}
use Rattle.cad_syntax.specs.TypeIds.{same_id}
use Rattle.cad_syntax.specs.Types.{PureType}
use Rattle.cad_syntax.specs.declared.kind.Kind.{Kind}
use Rattle.cad_syntax.specs.declared.num.Num.{Num}
use Rattle.cad_syntax.specs.declared.kind.Kind.TheVariants as kind
use Rattle.cad_syntax.specs.declared.type_id.TypeId.{TypeId}
use Rattle.cad_text.specs.Texts.{characters, most_bytes}
use Rattle.cad_types.specs.Below.{below}
use Rattle.cad_types.specs.declared.declared.Sort.{Sort}
use Rattle.cad_types.specs.declared.declared.Sort.TheVariants as s
use Rattle.cad_shapes.specs.Views.{same_name}
use Rattle.cad_values.specs.Fits.{most_elements, is_value_sort, is_case, is_contract}
use Rattle.cad_values.specs.Shapes.{Shape, ShapeField, Shapes, declarations, shape_of, shape_fields, is_type, is_key_type, are_entitlements, is_reference_type, is_enum}
use Rattle.cad_values.specs.Types.{type_of_value}
use Rattle.cad_values.specs.Values.{PureValue, PureEntry, PureField, some, number, string, character, meta, capability, array, dictionary, composite, reference, Values, no_values, values, Entries, no_entries, entries, keys, elements, Fields, no_fields, fields}

abbrev pub is_address : Kind → Bool
is_address kind.Address = true
is_address _ = false

abbrev pub is_number : Kind → Bool
is_number kind = not (is_address kind)

abbrev pub is_case_number : ℕ → Num → Bool
is_case_number cases n = not n.negative && nat_lt n.magnitude cases

abbrev pub is_text : List ℕ → Bool
is_text text = is_utf8 text && nat_le (length text) most_bytes

abbrev pub is_one_character : List ℕ → Bool
is_one_character text = is_utf8 text && (length (characters text) == 1)

abbrev pub has_identity : Sort → ℕ → Bool
has_identity s.Resource n = true
has_identity _ n = n == 0

abbrev pub has_case : Shape → Fields → Bool
has_case shape (fields n v no_fields) = not (is_enum shape.sort) || is_case shape v
has_case shape _ = not (is_enum shape.sort)

abbrev pub is_of : ℕ → Fields → Shape → Bool
is_of n fs shape = is_value_sort shape.sort && (has_identity shape.sort n && has_case shape fs)

abbrev pub is_of_shape : ℕ → Fields → Option Shape → Bool
is_of_shape n fs None = false
is_of_shape n fs (Some shape) = is_of n fs shape

abbrev pub is_below : Shapes → PureValue → PureType → Bool
is_below k v want = below (declarations k) (type_of_value v) want

abbrev pub lends : Shapes → PureType → Bool
lends k lent = is_reference_type lent && is_type k lent

abbrev pub is_array : Shapes → PureType → Values → Bool
is_array k element vs = is_type k element && nat_le (length (elements vs)) most_elements

abbrev pub is_dictionary : Shapes → PureType → PureType → Entries → Bool
is_dictionary k key value es = is_key_type k key && (is_type k value && nat_le (length (keys es)) most_elements)

abbrev mutual
  pub holds : Shapes → PureValue → Bool
  holds k (some v) = holds k v
  holds k (number n) = is_number n.kind
  holds k (string text) = is_text text
  holds k (character text) = is_one_character text
  holds k (meta t) = is_type k t
  holds k (capability a n lent) = lends k lent
  holds k (array element vs) = is_array k element vs && values_fit k element vs
  holds k (dictionary key value es) = is_dictionary k key value es && entries_fit k key value es
  holds k (composite id n fs) = is_of_shape n fs (shape_of k id) && fields_fit k (shape_fields (shape_of k id)) fs
  holds k (reference authorization target to) = are_entitlements k authorization && is_type k target
  holds k _ = true

  pub values_fit : Shapes → PureType → Values → Bool
  values_fit k want no_values = true
  values_fit k want (values v vs) = is_below k v want && (holds k v && values_fit k want vs)

  pub entries_fit : Shapes → PureType → PureType → Entries → Bool
  entries_fit k key value no_entries = true
  entries_fit k key value (entries x v es) = (is_below k x key && (holds k x && (is_below k v value && holds k v))) && entries_fit k key value es

  pub fields_fit : Shapes → List ShapeField → Fields → Bool
  fields_fit k [] no_fields = true
  fields_fit k (f ∷ all) (fields n v fs) = (same_name n f.name && (is_below k v f.is && holds k v)) && fields_fit k all fs
  fields_fit k _ _ = false

abbrev pub entry_fits : Shapes → PureType → PureType → PureEntry → Bool
entry_fits k key value e = is_below k e.key key && (holds k e.key && (is_below k e.value value && holds k e.value))

abbrev pub field_fits : Shapes → ShapeField → PureField → Bool
field_fits k declared f = same_name f.name declared.name && (is_below k f.value declared.is && holds k f.value)

abbrev pub fits : Shapes → PureValue → PureType → Bool
fits k v want = is_below k v want && holds k v

-- ---- the values of contracts

abbrev pub is_contract_of : ℕ → Shape → Bool
is_contract_of n shape = is_contract shape.sort && (n == 0)

abbrev pub is_contract_shape : ℕ → Option Shape → Bool
is_contract_shape n None = false
is_contract_shape n (Some shape) = is_contract_of n shape

abbrev pub contract_fits : Shapes → TypeId → ℕ → Fields → Bool
contract_fits k id n fs = is_contract_shape n (shape_of k id) && fields_fit k (shape_fields (shape_of k id)) fs

abbrev pub fits_contract : Shapes → PureValue → TypeId → Bool
fits_contract k (composite own n fs) id = same_id own id && contract_fits k own n fs
fits_contract k _ id = false
