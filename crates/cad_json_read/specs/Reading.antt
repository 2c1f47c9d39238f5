-- Which value a JSON text stands for, as a function.
use Rattle.std.specs.Prelude.{◌≡◌, refl, ℕ, zero, suc, Bool, true, false, ◌&&◌, ◌==◌, List, [], ◌∷◌, length, map, codes, ℤ, pos, negsuc, Option, Some, None, option_map, option_and_then, if◌then◌else◌}
use Rattle.std.specs.List.{slice_split}
use Rattle.serde_json.specs.Data.{Data, null, boolean, number, string, array, object, Items, no_items, item, Members, no_members, member}
use Rattle.serde_json.specs.Find.{as_null, as_bool, as_str, as_array, as_object}
use Rattle.cad_num.specs.Decimal.{read_of}
use Rattle.cad_syntax.specs.Addresses.{address_of}
use Rattle.cad_syntax.specs.Code.TypeIds.{id_of}
use Rattle.cad_syntax.specs.Kinds.{is_kept}
use Rattle.cad_syntax.specs.Types.{PureType, basic, optional, dictionary, declared}
use Rattle.cad_syntax.specs.Types as t
use Rattle.cad_syntax.specs.declared.address.Domain.{Domain}
use Rattle.cad_syntax.specs.declared.address.Domain.TheVariants as d
use Rattle.cad_syntax.specs.declared.kind.Kind.{Kind}
use Rattle.cad_syntax.specs.declared.num.Num.{Num}
use Rattle.cad_syntax.specs.declared.text.Name.{Name}
use Rattle.cad_syntax.specs.declared.type_id.TypeId.{TypeId}
use Rattle.cad_syntax.specs.declared.types.Basic.{Basic}
use Rattle.cad_syntax.specs.declared.types.Basic.TheVariants as b
use Rattle.cad_text.specs.Texts.{characters}
use Rattle.cad_types.specs.declared.declared.Sort.{Sort}
use Rattle.cad_types.specs.declared.declared.Sort.TheVariants as s
use Rattle.cad_values.specs.Shapes.{Shape, ShapeField, Shapes, shape_of}
use Rattle.cad_values.specs.Values as v
use Rattle.cad_values.specs.Values.{PureValue, PureEntry, PureField, values_of, entries_of, fields_of}
use Rattle.cad_json.specs.Read.{any_struct}
use Rattle.cad_json.specs.Words.{is_address}
use Rattle.cad_json_read.specs.Forms.{same_text, first_of, form_of}
use Rattle.cad_json_read.specs.declared.form.Form.{Form}
use Rattle.cad_json_read.specs.declared.form.Form.TheVariants as f

infixl 10 ◌>>=◌
abbrev pub ◌>>=◌ : {A B : Type 0} → Option A → (A → Option B) → Option B
o >>= g = option_and_then g o

-- ---- objects of two members

abbrev pub pair_in : List ℕ → List ℕ → Members → Option (Data × Data)
pair_in first second (member a x (member c y no_members)) = if same_text a first && same_text c second then Some (x, y) else None
pair_in first second _ = None

unfoldable pub pair_of : List ℕ → List ℕ → Data → Option (Data × Data)
pair_of first second json = as_object json >>= pair_in first second

-- the form of a value and its content
abbrev pub form_at : Data → Option Form
form_at word = as_str word >>= form_of

unfoldable pub typed_of : Data → Option (Form × Data)
typed_of json = pair_of (codes "type") (codes "value") json >>= λ p. form_at p.0 >>= λ form. Some (form, p.1)

-- ---- values without parts

abbrev pub is_cluster : List ℕ → Bool
is_cluster text = length (characters text) == 1

abbrev pub kept_num : (kind : Kind) (negative : Bool) (magnitude : ℕ) (kept : Bool) → is_kept kind negative magnitude ≡ kept → Option Num
kept_num kind negative magnitude true e = Some (record { kind = kind; negative = negative; magnitude = magnitude; kept = e })
kept_num kind negative magnitude false e = None

-- the number of a kind that means an integer
abbrev pub num_at : Kind → ℤ → Option Num
num_at kind (pos n) = kept_num kind false n (is_kept kind false n) refl
num_at kind (negsuc n) = kept_num kind true (suc n) (is_kept kind true (suc n)) refl

unfoldable pub number_of : Kind → List ℕ → Option Num
number_of kind text = if is_address kind then None else read_of kind text >>= num_at kind

abbrev pub domain_of : List ℕ → Option Domain
domain_of text = if same_text text (codes "storage") then Some d.Storage else if same_text text (codes "public") then Some d.Public else None

abbrev pub character_of : List ℕ → Option PureValue
character_of text = if is_cluster text then Some (v.character text) else None

abbrev pub address_value : List ℕ → Option PureValue
address_value text = option_map (λ n. v.address (record { 0 = n })) (address_of text)

abbrev pub number_value : Kind → List ℕ → Option PureValue
number_value kind text = option_map v.number (number_of kind text)

abbrev pub character_at : Data → Option PureValue
character_at content = as_str content >>= character_of

abbrev pub address_at : Data → Option PureValue
address_at content = as_str content >>= address_value

abbrev pub number_at : Kind → Data → Option PureValue
number_at kind content = as_str content >>= number_value kind

abbrev pub domain_at : Data → Option Domain
domain_at content = as_str content >>= domain_of

abbrev pub path_of : Data → Option PureValue
path_of content = pair_of (codes "domain") (codes "identifier") content >>= λ p. domain_at p.0 >>= λ domain. as_str p.1 >>= λ identifier.
    Some (v.path (record { domain = domain; identifier = record { 0 = identifier } }))

-- ---- what is expected of parts

abbrev pub any_part : Basic → Option PureType
any_part b.AnyStruct = Some any_struct
any_part _ = None

abbrev pub optional_part : PureType → Option PureType
optional_part (optional want) = Some want
optional_part (basic t) = any_part t
optional_part _ = None

abbrev pub array_part : PureType → Option PureType
array_part (t.array want) = Some want
array_part (basic t) = any_part t
array_part _ = None

abbrev pub dictionary_parts : PureType → Option (PureType × PureType)
dictionary_parts (dictionary key want) = Some (key, want)
dictionary_parts _ = None

-- ---- lists

abbrev pub item_list : Items → List Data
item_list no_items = []
item_list (item x items) = x ∷ item_list items

-- what each gives, if each gives something
abbrev pub each : {A B : Type 0} → (A → Option B) → List A → Option (List B)
each g [] = Some []
each g (x ∷ xs) = g x >>= λ y. each g xs >>= λ ys. Some (y ∷ ys)

abbrev pub list_of : Data → Option (List Data)
list_of json = option_map item_list (as_array json)

-- ---- composites

-- the declared types, and which of them arguments can have
pub record Known : Type 0 where
  pub shapes : Shapes
  pub importable : TypeId → Bool

unfoldable pub id_at : List ℕ → Option TypeId
id_at text = id_of (slice_split (λ c. c == 46) text)

abbrev pub is_of_sort : Form → Sort → Bool
is_of_sort f.Struct s.Struct = true
is_of_sort f.Enum s.Enum = true
is_of_sort _ _ = false

-- the shape of a type that an argument can have
abbrev pub shape_at : Known → Form → TypeId → Option Shape
shape_at k form id = shape_of k.shapes id >>= λ shape. if is_of_sort form shape.sort && k.importable id then Some shape else None

-- the value of the first field with a name
abbrev pub value_named : List ℕ → Option (Data × Data) → Option Data
value_named name None = None
value_named name (Some p) = as_str p.0 >>= λ text. if same_text text name then Some p.1 else None

abbrev pub field_value : List ℕ → Data → Option Data
field_value name json = value_named name (pair_of (codes "name") (codes "value") json)

abbrev pub value_at : List ℕ → List Data → Option Data
value_at name [] = None
value_at name (json ∷ all) = first_of (field_value name json) (value_at name all)

abbrev pub field_of : (PureType → Data → Option PureValue) → List Data → ShapeField → Option PureField
field_of inner all field = value_at field.name.0 all >>= λ json. inner field.is json >>= λ x. Some (record { name = field.name; value = x })

abbrev pub fields_at : (PureType → Data → Option PureValue) → List ShapeField → List Data → Option (List PureField)
fields_at inner fields all = if length all == length fields then each (field_of inner all) fields else None

abbrev pub declared_at : Known → (PureType → Data → Option PureValue) → Form → Data → TypeId → Option PureValue
declared_at k inner form list id = shape_at k form id >>= λ shape. list_of list >>= λ all. fields_at inner shape.fields all >>= λ fs. Some (v.composite id 0 (fields_of fs))

abbrev pub composite_at : Known → (PureType → Data → Option PureValue) → Form → Data → Option PureValue
composite_at k inner form content = pair_of (codes "fields") (codes "id") content >>= λ p. as_str p.1 >>= λ text. id_at text >>= λ id. declared_at k inner form p.0 id

-- ---- values

-- nil, where the content is null
abbrev pub unless_null : Option (Unit {0}) → Option PureValue → Option PureValue
unless_null (Some u) content = Some v.nil
unless_null None content = option_map v.some content

abbrev pub optional_at : (PureType → Data → Option PureValue) → PureType → Data → Option PureValue
optional_at inner want content = optional_part want >>= λ part. unless_null (as_null content) (inner part content)

abbrev pub array_at : (PureType → Data → Option PureValue) → PureType → Data → Option PureValue
array_at inner want content = array_part want >>= λ part. list_of content >>= λ all. each (inner part) all >>= λ vs. Some (v.array part (values_of vs))

abbrev pub entry_at : (PureType → Data → Option PureValue) → PureType → PureType → Data → Option PureEntry
entry_at inner key want json = pair_of (codes "key") (codes "value") json >>= λ p. inner key p.0 >>= λ x. inner want p.1 >>= λ y. Some (record { key = x; value = y })

abbrev pub dictionary_at : (PureType → Data → Option PureValue) → PureType → Data → Option PureValue
dictionary_at inner want content = dictionary_parts want >>= λ parts. list_of content >>= λ all. each (entry_at inner parts.0 parts.1) all >>= λ es. Some (v.dictionary parts.0 parts.1 (entries_of es))

-- the value of a form and a content
abbrev pub of_form : Known → (PureType → Data → Option PureValue) → PureType → Form → Data → Option PureValue
of_form k inner want f.String content = option_map v.string (as_str content)
of_form k inner want f.Optional content = optional_at inner want content
of_form k inner want f.Array content = array_at inner want content
of_form k inner want f.Struct content = composite_at k inner f.Struct content
of_form k inner want f.Bool content = option_map v.bool (as_bool content)
of_form k inner want f.Address content = address_at content
of_form k inner want f.Character content = character_at content
of_form k inner want f.Dictionary content = dictionary_at inner want content
of_form k inner want f.Path content = path_of content
of_form k inner want f.Enum content = composite_at k inner f.Enum content
of_form k inner want (f.Number kind) content = number_at kind content

-- the value that is at most so high
unfoldable pub value_of : Known → ℕ → PureType → Data → Option PureValue
value_of k zero want json = None
value_of k (suc left) want json = typed_of json >>= λ p. of_form k (value_of k left) want p.0 p.1
