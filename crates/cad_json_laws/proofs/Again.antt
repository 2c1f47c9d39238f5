-- What a value is told as stands for it again.
use Rattle.std.proofs.Common.{◌≡◌, ℕ, Bool, true, false, List, [], ◌∷◌, map, Option, Some, None, option_map, refl, sym, ap, ◌∙◌, subst}
use Rattle.std.specs.Prelude.{◌↔◌, ◌&&◌, codes}
use Rattle.std.specs.List.{list_all}
use Rattle.std.proofs.lemmas.Bool.{and_parts}
use Rattle.serde_json.specs.Data.{Data, array as list, Items, no_items, item}
use Rattle.serde_json.specs.View.{items_of}
use Rattle.cad_codec.specs.Ranges.{InRange, ValuesInRange, EntriesInRange, FieldsInRange}
use Rattle.cad_num.specs.Decimal.{written}
use Rattle.cad_num.proofs.RoundTrip.{read_back}
use Rattle.cad_syntax.specs.TypeIds.{type_text}
use Rattle.cad_syntax.specs.Types.{PureType, basic, optional, declared}
use Rattle.cad_syntax.specs.Types as t
use Rattle.cad_syntax.specs.declared.num.Num.{Num}
use Rattle.cad_syntax.specs.declared.text.Name.{Name}
use Rattle.cad_syntax.specs.declared.type_id.TypeId.{TypeId}
use Rattle.cad_syntax.specs.declared.types.Basic.TheVariants as b
use Rattle.cad_syntax.proofs.Hex.{address_of-address_text}
use Rattle.cad_types.specs.Below.{below}
use Rattle.cad_types.specs.Classes.{Keeps, Importable, importable_rule, is_data_sort, has_sort, fields_in}
use Rattle.cad_types.specs.Declarations.{Declaration, found}
use Rattle.cad_types.specs.Sub.{Sub}
use Rattle.cad_values.specs.Fits.{IsBelow, Holds, AllFit, EntriesFit, FieldsFit, IsOf, is_value_sort}
use Rattle.cad_values.specs.Shapes.{Shape, ShapeField, Shapes, declaration, declarations, shape_of, shape_fields}
use Rattle.cad_values.specs.Types.{type_of_value}
use Rattle.cad_values.specs.Values as v
use Rattle.cad_values.specs.Values.{PureValue, Values, no_values, values, Entries, no_entries, entries, Fields, no_fields, fields}
use Rattle.cad_json.specs.Read as r
use Rattle.cad_json.specs.Read.{JsonOf, Reads, ReadsAll, ReadsEntries, ReadsFields}
use Rattle.cad_json.specs.Told.{told, told_values, told_entries, told_fields, composite_of, with_uuid}
use Rattle.cad_json.specs.Words.{kind_word, sort_word, typed, number_json, field_json, composite_json}
use Rattle.cad_json_read.proofs.Numbers.{not_address}
use Rattle.cad_json_laws.specs.Whole.{told_rule, IsExact, AllExact, EntriesExact, FieldsExact, content, AreNamed, IsWhole}
use Rattle.cad_json_laws.proofs.Wanted.{no_void, no_meta, no_capability, no_reference, optional_wanted, declared_wanted, found_shape, no_identity, no_uuid}

-- what is known of the declared types: the order of types is told by its test, and their names are names
pub record Known (k : Shapes) : Type 0 where
  pub tells : (a b : PureType) → (below (declarations k) a b ≡ true) ↔ Sub (declarations k) a b
  pub named : AreNamed k

-- a class of types that arguments can have, without AnyStruct
abbrev pub IsClass : Shapes → (PureType → Bool) → Type 0
IsClass k class = Keeps (told_rule (declarations k)) class

abbrev pub field_list : List Declaration → Fields → List Data
field_list ds no_fields = []
field_list ds (fields n x fs) = field_json n.0 (told ds x) ∷ field_list ds fs

fields_listed : (ds : List Declaration) (fs : Fields) → items_of (field_list ds fs) ≡ told_fields ds fs
fields_listed ds no_fields = refl
fields_listed ds (fields n x fs) = ap (item (field_json n.0 (told ds x))) (fields_listed ds fs)

low_so : (k : Shapes) → Known k → (x : PureValue) (want : PureType) → IsBelow k x want → below (declarations k) (type_of_value x) want ≡ true
low_so k known x want low = (known.tells (type_of_value x) want).1 low

number_reads : (k : Shapes) (n : Num) (want : PureType) → Holds k is_value_sort (v.number n) → Reads k want (number_json n.kind (written n)) (v.number n)
number_reads k n want other = rw (not_address n.kind other) (r.plain (r.number other (read_back n)))

the_shape : (n : ℕ) (fs : Fields) (o : Option Shape) → IsOf is_value_sort n fs o → (shape : Shape) × (o ≡ Some shape)
the_shape n fs None is = absurd is
the_shape n fs (Some shape) is = (shape, refl)

importable_so : (k : Shapes) (class : PureType → Bool) → IsClass k class → (t : PureType) → class t ≡ true → Importable (declarations k) t
importable_so k class keeps t is = (class, λ u e. (and_parts _ _ (keeps u e)).1, is)

-- the JSON of a struct or an enum
data_json : (k : Shapes) (id : TypeId) (n : ℕ) (fs : Fields) (shape : Shape) → shape_of k id ≡ Some shape → is_data_sort shape.sort ≡ true
    → typed (sort_word shape.sort) (composite_json (list (items_of (field_list (declarations k) fs))) (type_text id)) ≡ told (declarations k) (v.composite id n fs)
data_json k id n fs shape there data_sort =
    let ds = declarations k in
    let declared_so : found ds id ≡ Some (declaration shape) = found_shape k.types id ∙ ap (option_map declaration) there in
    ap (λ (xs : Items). typed (sort_word shape.sort) (composite_json (list xs) (type_text id))) (fields_listed ds fs ∙ sym (no_uuid shape.sort n (told_fields ds fs) data_sort))
    ∙ ap (λ (o : Option Declaration). composite_of o (type_text id) n (told_fields ds fs)) (sym declared_so)

-- what the class says of a declared type
data_rule : (k : Shapes) (class : PureType → Bool) → IsClass k class → (id : TypeId) (shape : Shape) → shape_of k id ≡ Some shape → class (declared id) ≡ true
    → (is_data_sort shape.sort ≡ true) × (list_all class (map (λ (f : ShapeField). f.is) shape.fields) ≡ true)
data_rule k class keeps id shape there is =
    let declared_so : found (declarations k) id ≡ Some (declaration shape) = found_shape k.types id ∙ ap (option_map declaration) there in
    let rule = subst (λ (o : Option Declaration). (has_sort is_data_sort o && list_all class (fields_in o)) ≡ true) declared_so (keeps (declared id) is) in
    and_parts (is_data_sort shape.sort) (list_all class (map (λ (f : ShapeField). f.is) shape.fields)) rule

composite_reads : (k : Shapes) → Known k → (class : PureType → Bool) → IsClass k class → (id : TypeId) (n : ℕ) (fs : Fields) (want : PureType) (shape : Shape) → shape_of k id ≡ Some shape → class (declared id) ≡ true
    → IsOf is_value_sort n fs (Some shape) → InRange (v.composite id n fs) → is_data_sort shape.sort ≡ true → ReadsFields k shape.fields (field_list (declarations k) fs) fs → Reads k want (told (declarations k) (v.composite id n fs)) (v.composite id n fs)
composite_reads k known class keeps id n fs want shape there is own range data_sort read =
    let whole = r.composite {want = want} (record { is_text = refl; has_names = known.named id shape there }) range.0.0 there data_sort (importable_so k class keeps (declared id) is) read in
    subst (λ (d : Data). Reads k want d (v.composite id n fs)) (data_json k id n fs shape there data_sort)
    (subst (λ (m : ℕ). Reads k want (typed (sort_word shape.sort) (composite_json (list (items_of (field_list (declarations k) fs))) (type_text id))) (v.composite id m fs)) (sym (no_identity shape.sort n data_sort own.1)) whole)

mutual
  pub reads : (k : Shapes) → Known k → (class : PureType → Bool) → IsClass k class → (x : PureValue) (want : PureType) → class want ≡ true → IsBelow k x want → Holds k is_value_sort x → IsExact k x want → InRange x
      → Reads k want (told (declarations k) x) x
  reads k known class keeps v.void want is low holds exact range = absurd (no_void (declarations k) class want (keeps want is) (low_so k known v.void want low))
  reads k known class keeps v.nil want is low holds exact range =
      let w = optional_wanted (declarations k) class (basic b.Never) want (keeps want is) (low_so k known v.nil want low) in
      subst (λ (u : PureType). Reads k u (told (declarations k) v.nil) v.nil) (sym w.1) r.nil
  reads k known class keeps (v.some x) want is low holds exact range =
      let w = optional_wanted (declarations k) class (type_of_value x) want (keeps want is) (low_so k known (v.some x) want low) in
      let inner = reads k known class keeps x w.0 w.3 ((known.tells (type_of_value x) w.0).0 w.2) holds (subst (λ (u : PureType). IsExact k x (content u)) w.1 exact) range in
      subst (λ (u : PureType). Reads k u (told (declarations k) (v.some x)) (v.some x)) (sym w.1) (r.some inner)
  reads k known class keeps (v.bool x) want is low holds exact range = r.plain (r.bool x)
  reads k known class keeps (v.number n) want is low holds exact range = number_reads k n want holds
  reads k known class keeps (v.string text) want is low holds exact range = r.plain (r.string_of text)
  reads k known class keeps (v.character text) want is low holds exact range = r.plain (r.character holds.1)
  reads k known class keeps (v.address a) want is low holds exact range = r.plain (r.address (address_of-address_text a.0 range))
  reads k known class keeps (v.path p) want is low holds exact range = r.plain (r.path p)
  reads k known class keeps (v.meta t) want is low holds exact range = absurd (no_meta (declarations k) class want (keeps want is) (low_so k known (v.meta t) want low))
  reads k known class keeps (v.capability a n lent) want is low holds exact range = absurd (no_capability (declarations k) class lent want (keeps want is) (low_so k known (v.capability a n lent) want low))
  reads k known class keeps (v.array element vs) want is low holds exact range =
      let own = keeps (t.array element) (subst (λ (u : PureType). class u ≡ true) exact.0 is) in
      subst (λ (u : PureType). Reads k u (told (declarations k) (v.array element vs)) (v.array element vs)) (sym exact.0) (r.array_of (all_read k known class keeps vs element own holds.2 exact.1 range.2))
  reads k known class keeps (v.dictionary key value es) want is low holds exact range =
      let own = and_parts (class key) (class value) (keeps (t.dictionary key value) (subst (λ (u : PureType). class u ≡ true) exact.0 is)) in
      subst (λ (u : PureType). Reads k u (told (declarations k) (v.dictionary key value es)) (v.dictionary key value es)) (sym exact.0) (r.dictionary_of (entries_read k known class keeps es key value own.0 own.1 holds.3 exact.1 range.3))
  reads k known class keeps (v.composite id n fs) want is low holds exact range =
      let same = declared_wanted (declarations k) class id want (keeps want is) (low_so k known (v.composite id n fs) want low) in
      let own : class (declared id) ≡ true = subst (λ (u : PureType). class u ≡ true) same is in
      let found_it = the_shape n fs (shape_of k id) holds.0 in
      let rule = data_rule k class keeps id found_it.0 found_it.1 own in
      let fit = subst (λ (o : Option Shape). FieldsFit k (shape_fields o) fs) found_it.1 holds.1 in
      let so = subst (λ (o : Option Shape). FieldsExact k fs (shape_fields o)) found_it.1 exact in
      composite_reads k known class keeps id n fs want found_it.0 found_it.1 own (subst (λ (o : Option Shape). IsOf is_value_sort n fs o) found_it.1 holds.0) range rule.0 (fields_read k known class keeps fs found_it.0.fields rule.1 fit so range.3)
  reads k known class keeps (v.reference a target to) want is low holds exact range = absurd (no_reference (declarations k) class a target want (keeps want is) (low_so k known (v.reference a target to) want low))

  all_read : (k : Shapes) → Known k → (class : PureType → Bool) → IsClass k class → (vs : Values) (want : PureType) → class want ≡ true → AllFit k want vs → AllExact k vs want → ValuesInRange vs → ReadsAll k want (told_values (declarations k) vs) vs
  all_read k known class keeps no_values want is fit exact range = r.no_element
  all_read k known class keeps (values x vs) want is fit exact range = r.element (reads k known class keeps x want is fit.0 fit.1 exact.0 range.0) (all_read k known class keeps vs want is fit.2 exact.1 range.1)

  entries_read : (k : Shapes) → Known k → (class : PureType → Bool) → IsClass k class → (es : Entries) (key want : PureType) → class key ≡ true → class want ≡ true → EntriesFit k key want es → EntriesExact k es key want → EntriesInRange es
      → ReadsEntries k key want (told_entries (declarations k) es) es
  entries_read k known class keeps no_entries key want is_key is fit exact range = r.no_entry
  entries_read k known class keeps (entries x y es) key want is_key is fit exact range =
      r.entry (reads k known class keeps x key is_key fit.0 fit.1 exact.0 range.0.0) (reads k known class keeps y want is fit.2 fit.3 exact.1 range.0.1) (entries_read k known class keeps es key want is_key is fit.4 exact.2 range.1)

  fields_read : (k : Shapes) → Known k → (class : PureType → Bool) → IsClass k class → (fs : Fields) (all : List ShapeField) → list_all class (map (λ (f : ShapeField). f.is) all) ≡ true → FieldsFit k all fs → FieldsExact k fs all → FieldsInRange fs
      → ReadsFields k all (field_list (declarations k) fs) fs
  fields_read k known class keeps no_fields [] is fit exact range = r.no_field
  fields_read k known class keeps no_fields (f ∷ all) is fit exact range = absurd fit
  fields_read k known class keeps (fields n x fs) [] is fit exact range = absurd fit
  fields_read k known class keeps (fields n x fs) (f ∷ all) is fit exact range =
      let own = and_parts (class f.is) (list_all class (map (λ (g : ShapeField). g.is) all)) is in
      let first = reads k known class keeps x f.is own.0 fit.1 fit.2 exact.0 range.0.1 in
      let rest = fields_read k known class keeps fs all own.1 fit.3 exact.1 range.1 in
      subst (λ (m : Name). ReadsFields k (f ∷ all) (field_json m.0 (told (declarations k) x) ∷ field_list (declarations k) fs) (fields m x fs)) (sym fit.0) (r.one_field [] (field_list (declarations k) fs) first rest)

pub stands : (k : Shapes) → ((a b : PureType) → (below (declarations k) a b ≡ true) ↔ Sub (declarations k) a b) → (want : PureType) (x : PureValue) → IsWhole k want x → JsonOf k want x (told (declarations k) x)
stands k tells want x whole = record {
  importable = importable_so k whole.told_type.0 whole.told_type.1 want whole.told_type.2;
  reads = reads k (record { tells = tells; named = whole.named }) whole.told_type.0 whole.told_type.1 x want whole.told_type.2 whole.fits.0 whole.fits.1 whole.exact whole.in_range;
  fits = whole.fits;
  low = whole.low;
}
