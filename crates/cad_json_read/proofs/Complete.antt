-- What is read by the relation is read.
use Rattle.std.proofs.Common.{◌≡◌, ◌≢◌, ◌≤◌, ◌+◌, ℕ, zero, suc, max, Bool, true, false, not, List, [], ◌∷◌, ◌++◌, length, Option, Some, None, option_map, refl, sym, ap, ◌∙◌, subst, arith}
use Rattle.std.proofs.lemmas.Bool.{and_parts, eq-eqb}
use Rattle.std.specs.Prelude.{codes, if◌then◌else◌, ◌&&◌, ◌==◌}
use Rattle.std.specs.List.{list_all}
use Rattle.serde_json.specs.Data.{Data, null, boolean, string, array, Items, no_items, item}
use Rattle.serde_json.specs.Find.{as_null, as_bool, as_str}
use Rattle.serde_json.specs.View.{items_of}
use Rattle.cad_num.specs.Decimal.{read_of}
use Rattle.cad_num.specs.Numbers.{value_of as integer_of}
use Rattle.cad_syntax.specs.Types.{PureType, basic, optional, dictionary, declared}
use Rattle.cad_syntax.specs.Types as t
use Rattle.cad_syntax.specs.declared.address.Domain.{Domain}
use Rattle.cad_syntax.specs.declared.address.Domain.TheVariants as d
use Rattle.cad_syntax.specs.declared.num.Num.{Num}
use Rattle.cad_syntax.specs.declared.type_id.TypeId.{TypeId}
use Rattle.cad_syntax.specs.declared.text.Name.{Name}
use Rattle.cad_syntax.specs.declared.kind.Kind.TheVariants as k
use Rattle.cad_types.specs.Classes.{is_data_sort}
use Rattle.cad_types.specs.declared.declared.Sort.{Sort}
use Rattle.cad_types.specs.declared.declared.Sort.TheVariants as s
use Rattle.cad_values.specs.Shapes.{Shape, ShapeField, Shapes, shape_of}
use Rattle.cad_values.specs.Sizes.{height, values_height, entries_height, fields_height}
use Rattle.cad_values.specs.Values as v
use Rattle.cad_values.specs.Values.{PureValue, PureEntry, PureField, Values, no_values, values, values_of, elements, Entries, no_entries, entries, entries_of, Fields, no_fields, fields, fields_of}
use Rattle.cad_json.specs.Read as r
use Rattle.cad_json.specs.Read.{any_struct, ReadsPlain, Reads, ReadsAll, ReadsEntries, ReadsFields}
use Rattle.cad_text.specs.Texts.{characters}
use Rattle.cad_json.specs.Words.{kind_word, domain_word, sort_word, typed, path_json, entry_json, field_json, composite_json}
use Rattle.cad_shapes.specs.Views.{same_name, names_differ}
use Rattle.cad_json_read.specs.Forms.{form_of}
use Rattle.cad_json_read.specs.Reading.{Known, ◌>>=◌, pair_of, typed_of, number_of, num_at, domain_of, item_list, each, list_of, id_at, is_of_sort, shape_at, field_of, fields_at, composite_at, entry_at, unless_null, of_form, value_of, value_at}
use Rattle.cad_json_read.specs.declared.form.Form.{Form}
use Rattle.cad_json_read.specs.declared.form.Form.TheVariants as f
use Rattle.cad_json_read.proofs.FieldLaws.{field_list, fields_back, absent, own_at, others_read, length_around}
use Rattle.cad_json_read.proofs.Forming.{typed_again, string_found, optional_found, array_found, struct_found, bool_found, address_found, character_found, dictionary_found, path_found, enum_found, kind_found}
use Rattle.cad_json_read.proofs.Identifiers.{spells_found}
use Rattle.cad_json_read.proofs.Known.{Enough, Good, enough}
use Rattle.cad_json_read.proofs.Lists.{items_back}
use Rattle.cad_json_read.proofs.Numbers.{num_again, not_address}
use Rattle.cad_json_read.proofs.Options.{pair_again}

-- one level is there
pub at_suc : (n h : ℕ) → 1 + h ≤ n → (m : ℕ) × (n ≡ suc m) × (h ≤ m)
at_suc zero h le = absurd (omega arith)
at_suc (suc m) h le = (m, refl, omega arith)

by_form : (k : Known) (n m h : ℕ) (want : PureType) (word : List ℕ) (form : Form) (content : Data) (x : PureValue) → n ≡ suc m → form_of word ≡ Some form → of_form k (value_of k m) want form content ≡ Some x → value_of k n want (typed word content) ≡ Some x
unfolding value_of
by_form k n m h want word form content x is found e = rw (is, typed_again word form content found) e

number_again : (text : List ℕ) (n : Num) → n.kind ≢ k.Address → read_of n.kind text ≡ Some (integer_of n) → number_of n.kind text ≡ Some n
unfolding number_of
number_again text n other e = rw (not_address n.kind other, e) (num_again n)

domain_again : (domain : Domain) → domain_of (domain_word domain) ≡ Some domain
domain_again d.Storage = refl
domain_again d.Public = refl

plain_complete : (k : Known) (want : PureType) {json : Data} {x : PureValue} → ReadsPlain json x → (n : ℕ) → height x ≤ n → value_of k n want json ≡ Some x
plain_complete k want (r.bool x) n low = let s = at_suc n 0 (omega arith) in by_form k n s.0 0 want (codes "Bool") f.Bool (boolean x) (v.bool x) s.1 bool_found refl
plain_complete k want (r.string_of text) n low = let s = at_suc n 0 (omega arith) in by_form k n s.0 0 want (codes "String") f.String (string text) (v.string text) s.1 string_found refl
plain_complete k want (r.character {text} one) n low = let s = at_suc n 0 (omega arith) in by_form k n s.0 0 want (codes "Character") f.Character (string text) (v.character text) s.1 character_found (rw (eq-eqb (length (characters text)) 1 one) refl)
plain_complete k want (r.address {text} {a} e) n low = let s = at_suc n 0 (omega arith) in by_form k n s.0 0 want (codes "Address") f.Address (string text) (v.address a) s.1 address_found (rw e refl)
plain_complete k want (r.number {text} {n = num} other e) n low = let s = at_suc n 0 (omega arith) in by_form k n s.0 0 want (kind_word num.kind) (f.Number num.kind) (string text) (v.number num) s.1 (kind_found num.kind other) (rw (number_again text num other e) refl)
plain_complete k want (r.path p) n low =
    let s = at_suc n 0 (omega arith) in
    by_form k n s.0 0 want (codes "Path") f.Path (path_json (domain_word p.domain) p.identifier.0) (v.path p) s.1 path_found (rw (pair_again (codes "domain") (codes "identifier") (string (domain_word p.domain)) (string p.identifier.0), domain_again p.domain) refl)

-- what is read isn't null
plain_not_null : {json : Data} {x : PureValue} → ReadsPlain json x → as_null json ≡ None
plain_not_null (r.bool x) = refl
plain_not_null (r.string_of text) = refl
plain_not_null (r.character one) = refl
plain_not_null (r.address e) = refl
plain_not_null (r.number other e) = refl
plain_not_null (r.path p) = refl

not_null : (k : Shapes) {want : PureType} {json : Data} {x : PureValue} → Reads k want json x → as_null json ≡ None
not_null k (r.plain p) = plain_not_null p
not_null k r.nil = refl
not_null k (r.some p) = refl
not_null k (r.array_of p) = refl
not_null k (r.dictionary_of p) = refl
not_null k r.any_nil = refl
not_null k (r.any_some p) = refl
not_null k (r.any_array p) = refl
not_null k (r.composite a b c d e g) = refl

-- the lists of elements and entries
values_back : (vs : Values) → values_of (elements vs) ≡ vs
values_back no_values = refl
values_back (values x vs) = ap (values x) (values_back vs)

abbrev entry_list : Entries → List PureEntry
entry_list no_entries = []
entry_list (entries key x es) = record { key = key; value = x } ∷ entry_list es

entries_back : (es : Entries) → entries_of (entry_list es) ≡ es
entries_back no_entries = refl
entries_back (entries key x es) = ap (entries key x) (entries_back es)

record IsForm (sort : Sort) : Type 0 where
  form : Form
  found : form_of (sort_word sort) ≡ Some form
  fits : is_of_sort form sort ≡ true
  same : (k : Known) (inner : PureType → Data → Option PureValue) (want : PureType) (content : Data) → of_form k inner want form content ≡ composite_at k inner form content

data_form : (sort : Sort) → is_data_sort sort ≡ true → IsForm sort
data_form s.Struct e = record { form = f.Struct; found = struct_found; fits = refl; same = λ k inner want content. refl }
data_form s.Enum e = record { form = f.Enum; found = enum_found; fits = refl; same = λ k inner want content. refl }
data_form _ e = absurd cc

abbrev known : Shapes → (TypeId → Bool) → Known
known ss importable = record { shapes = ss; importable = importable }

mutual
  pub complete : (ss : Shapes) (importable : TypeId → Bool) → Enough (known ss importable) → {want : PureType} {json : Data} {x : PureValue} → Reads ss want json x → (n : ℕ) → height x ≤ n → value_of (known ss importable) n want json ≡ Some x
  complete ss importable good {want} (r.plain p) n low = plain_complete (known ss importable) want p n low
  complete ss importable good (r.nil {want}) n low = let s = at_suc n 0 (omega arith) in by_form (known ss importable) n s.0 0 (optional want) (codes "Optional") f.Optional null v.nil s.1 optional_found refl
  complete ss importable good (r.some {want} {json} {x} p) n low =
      let s = at_suc n (height x) low in
      by_form (known ss importable) n s.0 (height x) (optional want) (codes "Optional") f.Optional json (v.some x) s.1 optional_found (rw (not_null ss p, complete ss importable good p s.0 s.2) refl)
  complete ss importable good (r.array_of {want} {all} {vs} p) n low =
      let s = at_suc n (values_height vs) low in
      by_form (known ss importable) n s.0 (values_height vs) (t.array want) (codes "Array") f.Array (array all) (v.array want vs) s.1 array_found (rw (all_complete ss importable good p s.0 s.2, values_back vs) refl)
  complete ss importable good (r.dictionary_of {key} {want} {all} {es} p) n low =
      let s = at_suc n (entries_height es) low in
      by_form (known ss importable) n s.0 (entries_height es) (dictionary key want) (codes "Dictionary") f.Dictionary (array all) (v.dictionary key want es) s.1 dictionary_found (rw (entries_complete ss importable good p s.0 s.2, entries_back es) refl)
  complete ss importable good r.any_nil n low = let s = at_suc n 0 (omega arith) in by_form (known ss importable) n s.0 0 any_struct (codes "Optional") f.Optional null v.nil s.1 optional_found refl
  complete ss importable good (r.any_some {json} {x} p) n low =
      let s = at_suc n (height x) low in
      by_form (known ss importable) n s.0 (height x) any_struct (codes "Optional") f.Optional json (v.some x) s.1 optional_found (rw (not_null ss p, complete ss importable good p s.0 s.2) refl)
  complete ss importable good (r.any_array {all} {vs} p) n low =
      let s = at_suc n (values_height vs) low in
      by_form (known ss importable) n s.0 (values_height vs) any_struct (codes "Array") f.Array (array all) (v.array any_struct vs) s.1 array_found (rw (all_complete ss importable good p s.0 s.2, values_back vs) refl)
  complete ss importable good (r.composite {want} {text} {id} {shape} {all} {fs} spells small there is_data allowed p) n low =
      let s = at_suc n (fields_height fs) low in
      let form = data_form shape.sort is_data in
      let is_importable : importable id ≡ true = good.allowed id allowed in
      let read = fields_complete ss importable good p (good.named id shape there) s.0 s.2 in
      by_form (known ss importable) n s.0 (fields_height fs) want (sort_word shape.sort) form.form (composite_json (array (items_of all)) text) (v.composite id 0 fs) s.1 form.found
      (form.same (known ss importable) (value_of (known ss importable) s.0) want (composite_json (array (items_of all)) text)
      ∙ rw (pair_again (codes "fields") (codes "id") (array (items_of all)) (string text), spells_found text id small spells, there, form.fits, is_importable, items_back all, eq-eqb (length all) (length shape.fields) read.0, read.1, fields_back fs) refl)

  all_complete : (ss : Shapes) (importable : TypeId → Bool) → Enough (known ss importable) → {want : PureType} {all : Items} {vs : Values} → ReadsAll ss want all vs → (n : ℕ) → values_height vs ≤ n → each (value_of (known ss importable) n want) (item_list all) ≡ Some (elements vs)
  all_complete ss importable good r.no_element n low = refl
  all_complete ss importable good (r.element {want} {json} {all} {x} {vs} p ps) n low = rw (complete ss importable good p n (omega arith), all_complete ss importable good ps n (omega arith)) refl

  entries_complete : (ss : Shapes) (importable : TypeId → Bool) → Enough (known ss importable) → {key want : PureType} {all : Items} {es : Entries} → ReadsEntries ss key want all es → (n : ℕ) → entries_height es ≤ n → each (entry_at (value_of (known ss importable) n) key want) (item_list all) ≡ Some (entry_list es)
  entries_complete ss importable good r.no_entry n low = refl
  entries_complete ss importable good (r.entry {first} {second} p q ps) n low = rw (pair_again (codes "key") (codes "value") first second, complete ss importable good p n (omega arith), complete ss importable good q n (omega arith), entries_complete ss importable good ps n (omega arith)) refl

  fields_complete : (ss : Shapes) (importable : TypeId → Bool) → Enough (known ss importable) → {declared : List ShapeField} {all : List Data} {fs : Fields} → ReadsFields ss declared all fs → names_differ declared ≡ true → (n : ℕ) → fields_height fs ≤ n → (length all ≡ length declared) × (each (field_of (value_of (known ss importable) n) all) declared ≡ Some (field_list fs))
  fields_complete ss importable good r.no_field differ n low = (refl, refl)
  fields_complete ss importable good (r.one_field {field} {rest} before behind {json} {x} {fs} p ps) differ n low =
      let parts = and_parts (list_all (λ other. not (same_name other.name field.name)) rest) (names_differ rest) differ in
      let later = fields_complete ss importable good ps parts.1 n (omega arith) in
      let own = own_at field.name.0 json before behind (absent ss field.name rest (before ++ behind) fs ps parts.0) in
      let others = others_read (value_of (known ss importable) n) field.name json before behind rest parts.0 ∙ later.1 in
      (length_around before behind (field_json field.name.0 json) ∙ ap suc later.0, rw (own, complete ss importable good p n (omega arith), others) refl)

pub found_with : (k : Known) → Enough k → {want : PureType} {json : Data} {x : PureValue} → Reads k.shapes want json x → (n : ℕ) → height x ≤ n → value_of k n want json ≡ Some x
found_with k asked p n low = complete k.shapes k.importable asked p n low

pub found_by : (k : Known) → Good k → {want : PureType} {json : Data} {x : PureValue} → Reads k.shapes want json x → (n : ℕ) → height x ≤ n → value_of k n want json ≡ Some x
found_by k good p n low = found_with k (enough k good) p n low
