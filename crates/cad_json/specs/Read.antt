-- Which value a JSON text stands for where a type is expected.
use Rattle.std.specs.Prelude.{◌≡◌, ◌≢◌, ◌≤◌, ◌<◌, ◌^◌, ℕ, Bool, true, List, [], ◌∷◌, ◌++◌, Option, Some, None, codes, option_map}
use Rattle.serde_json.specs.Data.{Data, null, boolean, string, array, Items, no_items, item}
use Rattle.serde_json.specs.View.{items_of}
use Rattle.cad_num.specs.Decimal.{read_of}
use Rattle.cad_num.specs.Numbers.{value_of}
use Rattle.cad_syntax.specs.Addresses.{address_of}
use Rattle.cad_syntax.specs.TypeIds.{Spells}
use Rattle.cad_syntax.specs.Types.{PureType, basic, optional, dictionary, declared}
use Rattle.cad_syntax.specs.Types as t
use Rattle.cad_syntax.specs.declared.address.Address.{Address}
use Rattle.cad_syntax.specs.declared.address.Path.{Path}
use Rattle.cad_syntax.specs.declared.kind.Kind.TheVariants as k
use Rattle.cad_syntax.specs.declared.num.Num.{Num}
use Rattle.cad_syntax.specs.declared.type_id.TypeId.{TypeId}
use Rattle.cad_syntax.specs.declared.types.Basic.TheVariants as b
use Rattle.cad_types.specs.Classes.{Importable, is_data_sort}
use Rattle.cad_values.specs.Fits.{Fits, IsCharacter}
use Rattle.cad_values.specs.Shapes.{Shape, ShapeField, Shapes, declarations, shape_of}
use Rattle.cad_values.specs.Sizes.{height, most_high}
use Rattle.cad_values.specs.Values as v
use Rattle.cad_values.specs.Values.{PureValue, Values, no_values, values, Entries, no_entries, entries, Fields, no_fields, fields}
use Rattle.cad_json.specs.Words.{kind_word, domain_word, sort_word, typed, path_json, entry_json, field_json, composite_json}

abbrev pub any_struct : PureType
any_struct = basic b.AnyStruct

-- values without parts
pub data ReadsPlain : Data → PureValue → Type 0 where
  bool : (x : Bool) → ReadsPlain (typed (codes "Bool") (boolean x)) (v.bool x)
  string_of : (text : List ℕ) → ReadsPlain (typed (codes "String") (string text)) (v.string text)
  character : {text : List ℕ} → IsCharacter text → ReadsPlain (typed (codes "Character") (string text)) (v.character text)
  address : {text : List ℕ} {a : Address} → address_of text ≡ Some a.0 → ReadsPlain (typed (codes "Address") (string text)) (v.address a)
  number : {text : List ℕ} {n : Num} → n.kind ≢ k.Address → read_of n.kind text ≡ Some (value_of n) → ReadsPlain (typed (kind_word n.kind) (string text)) (v.number n)
  path : (p : Path) → ReadsPlain (typed (codes "Path") (path_json (domain_word p.domain) p.identifier.0)) (v.path p)

mutual
  -- Reads k want json x. The objects have no further keys. Whether x is of the type is asked by Fits.
  pub data Reads (k : Shapes) : PureType → Data → PureValue → Type 0 where
    plain : {want : PureType} {json : Data} {x : PureValue} → ReadsPlain json x → Reads k want json x
    nil : {want : PureType} → Reads k (optional want) (typed (codes "Optional") null) v.nil
    some : {want : PureType} {json : Data} {x : PureValue} → Reads k want json x → Reads k (optional want) (typed (codes "Optional") json) (v.some x)
    array_of : {want : PureType} {all : Items} {vs : Values} → ReadsAll k want all vs → Reads k (t.array want) (typed (codes "Array") (array all)) (v.array want vs)
    dictionary_of : {key want : PureType} {all : Items} {es : Entries} → ReadsEntries k key want all es → Reads k (dictionary key want) (typed (codes "Dictionary") (array all)) (v.dictionary key want es)
    -- where AnyStruct is expected, optionals and arrays of it are read
    any_nil : Reads k any_struct (typed (codes "Optional") null) v.nil
    any_some : {json : Data} {x : PureValue} → Reads k any_struct json x → Reads k any_struct (typed (codes "Optional") json) (v.some x)
    any_array : {all : Items} {vs : Values} → ReadsAll k any_struct all vs → Reads k any_struct (typed (codes "Array") (array all)) (v.array any_struct vs)
    -- a struct or enum that an argument can have; its identifier's address has 64 bits
    composite : {want : PureType} {text : List ℕ} {id : TypeId} {shape : Shape} {all : List Data} {fs : Fields} → Spells text id → id.address.0 < 2 ^ 64 → shape_of k id ≡ Some shape → is_data_sort shape.sort ≡ true → Importable (declarations k) (declared id)
        → ReadsFields k shape.fields all fs → Reads k want (typed (sort_word shape.sort) (composite_json (array (items_of all)) text)) (v.composite id 0 fs)

  pub data ReadsAll (k : Shapes) : PureType → Items → Values → Type 0 where
    no_element : {want : PureType} → ReadsAll k want no_items no_values
    element : {want : PureType} {json : Data} {all : Items} {x : PureValue} {vs : Values} → Reads k want json x → ReadsAll k want all vs → ReadsAll k want (item json all) (values x vs)

  pub data ReadsEntries (k : Shapes) : PureType → PureType → Items → Entries → Type 0 where
    no_entry : {key want : PureType} → ReadsEntries k key want no_items no_entries
    entry : {key want : PureType} {first second : Data} {all : Items} {x y : PureValue} {es : Entries} → Reads k key first x → Reads k want second y → ReadsEntries k key want all es → ReadsEntries k key want (item (entry_json first second) all) (entries x y es)

  -- each declared field once, wherever it stands
  pub data ReadsFields (k : Shapes) : List ShapeField → List Data → Fields → Type 0 where
    no_field : ReadsFields k [] [] no_fields
    one_field : {field : ShapeField} {rest : List ShapeField} (before behind : List Data) {json : Data} {x : PureValue} {fs : Fields} → Reads k field.is json x → ReadsFields k rest (before ++ behind) fs
        → ReadsFields k (field ∷ rest) (before ++ field_json field.name.0 json ∷ behind) (fields field.name x fs)

-- JsonOf k want x json: as an argument of this type the JSON stands for the value.
pub record JsonOf (k : Shapes) (want : PureType) (x : PureValue) (json : Data) : Type 0 where
  pub importable : Importable (declarations k) want
  pub reads : Reads k want json x
  pub fits : Fits k x want
  pub low : height x ≤ most_high
