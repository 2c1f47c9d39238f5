-- What is told of a value depends on the sorts of declared types alone.
use Rattle.std.proofs.Common.{◌≡◌, ℕ, Bool, true, false, ◌&&◌, List, [], ◌∷◌, map, Option, Some, None, option_map, refl, ap, ◌∙◌}
use Rattle.std.specs.Prelude.{codes, if◌then◌else◌}
use Rattle.serde_json.specs.Data.{Data, Items, array, item}
use Rattle.cad_syntax.specs.TypeIds.{same_id, type_text}
use Rattle.cad_syntax.specs.declared.type_id.TypeId.{TypeId}
use Rattle.cad_declarations.specs.Tables.{TypeEntry}
use Rattle.cad_types.specs.Classes.{has_sort}
use Rattle.cad_types.specs.Declarations.{Declaration, found}
use Rattle.cad_types.specs.declared.declared.Sort.{Sort}
use Rattle.cad_values.specs.Shapes.{declaration, declarations}
use Rattle.cad_values.specs.Values as v
use Rattle.cad_values.specs.Values.{PureValue, Values, no_values, values, Entries, no_entries, entries, Fields, no_fields, fields}
use Rattle.cad_json.specs.Forms.{has_form, values_have_form, entries_have_form, fields_have_form, is_told_sort}
use Rattle.cad_json.specs.Told.{told, told_values, told_entries, told_fields, composite_of, with_uuid}
use Rattle.cad_json.specs.Words.{sort_word, typed, entry_json, field_json, composite_json}
use Rattle.cad_runs.specs.Commands.{result}
use Rattle.cad_world.specs.Declared.{types_of}
use Rattle.cad_world.specs.Shapes.{shape_of_entry, shapes}
use Rattle.cad_world.specs.State.{Contract}
use Rattle.cad_contract_shapes.specs.Sorts.{sort_of_entry, sorts}
use Rattle.cad_run_worlds.specs.Replies.{told_if, told_value}

-- ---- lists of declarations with the same sorts

abbrev sort_in : Option Declaration → Option Sort
sort_in o = option_map (λ d. d.sort) o

abbrev HaveSameSorts : List Declaration → List Declaration → Type 0
HaveSameSorts ds es = (id : TypeId) → sort_in (found ds id) ≡ sort_in (found es id)

by_test : (b : Bool) (d e : Declaration) (o q : Option Declaration) → d.sort ≡ e.sort → sort_in o ≡ sort_in q → sort_in (if b then Some d else o) ≡ sort_in (if b then Some e else q)
by_test true d e o q own others = ap (λ (sort : Sort). Some sort) own
by_test false d e o q own others = others

entries_so : (all : List TypeEntry) → HaveSameSorts (map sort_of_entry all) (map declaration (map shape_of_entry all))
entries_so [] id = refl
entries_so (entry ∷ all) id =
    by_test (same_id entry.id id) (sort_of_entry entry) (declaration (shape_of_entry entry)) (found (map sort_of_entry all) id) (found (map declaration (map shape_of_entry all)) id) refl
    (entries_so all id)

-- ---- composites

some_is : {A : Type 0} (a b : A) → Some a ≡ Some b → a ≡ b
some_is a b e = cc

composite_so : (o q : Option Declaration) (text : List ℕ) (identity : ℕ) (items : Items) → sort_in o ≡ sort_in q → composite_of o text identity items ≡ composite_of q text identity items
composite_so None None text identity items e = refl
composite_so (Some d) (Some other) text identity items e =
    ap (λ (sort : Sort). typed (sort_word sort) (composite_json (array (with_uuid sort identity items)) text)) (some_is d.sort other.sort e)
composite_so None (Some other) text identity items e = absurd cc
composite_so (Some d) None text identity items e = absurd cc

has_sort_so : (test : Sort → Bool) (o q : Option Declaration) → sort_in o ≡ sort_in q → has_sort test o ≡ has_sort test q
has_sort_so test None None e = refl
has_sort_so test (Some d) (Some other) e = ap test (some_is d.sort other.sort e)
has_sort_so test None (Some other) e = absurd cc
has_sort_so test (Some d) None e = absurd cc

both_so : (a b c d : Bool) → a ≡ b → c ≡ d → (a && c) ≡ (b && d)
both_so a b c d e f = ap (λ (x : Bool). x && c) e ∙ ap (λ (x : Bool). b && x) f

-- ---- values

mutual
  form_so : (ds es : List Declaration) → HaveSameSorts ds es → (x : PureValue) → has_form ds x ≡ has_form es x
  form_so ds es same (v.some x) = form_so ds es same x
  form_so ds es same (v.array t vs) = values_form_so ds es same vs
  form_so ds es same (v.dictionary key value all) = entries_form_so ds es same all
  form_so ds es same (v.composite id identity fs) =
      both_so (has_sort is_told_sort (found ds id)) (has_sort is_told_sort (found es id)) (fields_have_form ds fs) (fields_have_form es fs)
      (has_sort_so is_told_sort (found ds id) (found es id) (same id)) (fields_form_so ds es same fs)
  form_so ds es same _ = refl

  values_form_so : (ds es : List Declaration) → HaveSameSorts ds es → (vs : Values) → values_have_form ds vs ≡ values_have_form es vs
  values_form_so ds es same no_values = refl
  values_form_so ds es same (values x vs) =
      both_so (has_form ds x) (has_form es x) (values_have_form ds vs) (values_have_form es vs) (form_so ds es same x) (values_form_so ds es same vs)

  entries_form_so : (ds es : List Declaration) → HaveSameSorts ds es → (all : Entries) → entries_have_form ds all ≡ entries_have_form es all
  entries_form_so ds es same no_entries = refl
  entries_form_so ds es same (entries key x all) =
      both_so (has_form ds key && has_form ds x) (has_form es key && has_form es x) (entries_have_form ds all) (entries_have_form es all)
      (both_so (has_form ds key) (has_form es key) (has_form ds x) (has_form es x) (form_so ds es same key) (form_so ds es same x)) (entries_form_so ds es same all)

  fields_form_so : (ds es : List Declaration) → HaveSameSorts ds es → (fs : Fields) → fields_have_form ds fs ≡ fields_have_form es fs
  fields_form_so ds es same no_fields = refl
  fields_form_so ds es same (fields n x fs) =
      both_so (has_form ds x) (has_form es x) (fields_have_form ds fs) (fields_have_form es fs) (form_so ds es same x) (fields_form_so ds es same fs)

mutual
  told_so : (ds es : List Declaration) → HaveSameSorts ds es → (x : PureValue) → told ds x ≡ told es x
  told_so ds es same (v.some x) = ap (typed (codes "Optional")) (told_so ds es same x)
  told_so ds es same (v.array t vs) = ap (λ (all : Items). typed (codes "Array") (array all)) (values_told_so ds es same vs)
  told_so ds es same (v.dictionary key value all) = ap (λ (items : Items). typed (codes "Dictionary") (array items)) (entries_told_so ds es same all)
  told_so ds es same (v.composite id identity fs) =
      ap (composite_of (found ds id) (type_text id) identity) (fields_told_so ds es same fs)
      ∙ composite_so (found ds id) (found es id) (type_text id) identity (told_fields es fs) (same id)
  told_so ds es same _ = refl

  values_told_so : (ds es : List Declaration) → HaveSameSorts ds es → (vs : Values) → told_values ds vs ≡ told_values es vs
  values_told_so ds es same no_values = refl
  values_told_so ds es same (values x vs) = ap (λ (json : Data). item json (told_values ds vs)) (told_so ds es same x) ∙ ap (item (told es x)) (values_told_so ds es same vs)

  entries_told_so : (ds es : List Declaration) → HaveSameSorts ds es → (all : Entries) → told_entries ds all ≡ told_entries es all
  entries_told_so ds es same no_entries = refl
  entries_told_so ds es same (entries key x all) =
      ap (λ (json : Data). item (entry_json json (told ds x)) (told_entries ds all)) (told_so ds es same key)
      ∙ ap (λ (json : Data). item (entry_json (told es key) json) (told_entries ds all)) (told_so ds es same x)
      ∙ ap (item (entry_json (told es key) (told es x))) (entries_told_so ds es same all)

  fields_told_so : (ds es : List Declaration) → HaveSameSorts ds es → (fs : Fields) → told_fields ds fs ≡ told_fields es fs
  fields_told_so ds es same no_fields = refl
  fields_told_so ds es same (fields n x fs) =
      ap (λ (json : Data). item (field_json n.0 json) (told_fields ds fs)) (told_so ds es same x) ∙ ap (item (field_json n.0 (told es x))) (fields_told_so ds es same fs)

-- ---- by what contracts declare

if_so : (ds es : List Declaration) (b c : Bool) (x : PureValue) → b ≡ c → told ds x ≡ told es x → told_if ds b x ≡ told_if es c x
if_so ds es true true x same e = ap (λ (json : Data). result json) e
if_so ds es false false x same e = refl
if_so ds es true false x same e = absurd cc
if_so ds es false true x same e = absurd cc

pub value_so : (contracts : List Contract) (x : PureValue) → told_value (sorts contracts) x ≡ told_value (declarations (shapes contracts)) x
value_so contracts x =
    let same = entries_so (types_of contracts) in
    if_so (sorts contracts) (declarations (shapes contracts)) (has_form (sorts contracts) x) (has_form (declarations (shapes contracts)) x) x
    (form_so (sorts contracts) (declarations (shapes contracts)) same x) (told_so (sorts contracts) (declarations (shapes contracts)) same x)

pub all_told_so : (contracts : List Contract) (all : List PureValue) → map (told (sorts contracts)) all ≡ map (told (declarations (shapes contracts))) all
all_told_so contracts [] = refl
all_told_so contracts (x ∷ all) =
    let head = told_so (sorts contracts) (declarations (shapes contracts)) (entries_so (types_of contracts)) x in
    let tail = all_told_so contracts all in
    cc
