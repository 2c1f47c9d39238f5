-- Fields wherever they stand.
use Rattle.std.proofs.Common.{◌≡◌, ◌≢◌, ◌≤◌, ◌+◌, ℕ, zero, suc, max, Bool, true, false, not, List, [], ◌∷◌, ◌++◌, length, Option, Some, None, refl, sym, ap, ◌∙◌, subst, arith}
use Rattle.std.proofs.lemmas.Bool.{and_parts, not-true}
use Rattle.std.specs.List.{list_all}
use Rattle.std.specs.Prelude.{codes, if◌then◌else◌, ◌&&◌}
use Rattle.serde_json.specs.Data.{Data, string}
use Rattle.serde_json.specs.Find.{as_str}
use Rattle.cad_syntax.specs.Types.{PureType}
use Rattle.cad_syntax.specs.declared.text.Name.{Name}
use Rattle.cad_values.specs.Shapes.{ShapeField, Shapes}
use Rattle.cad_values.specs.Sizes.{height, fields_height}
use Rattle.cad_values.specs.Values.{PureValue, PureField, Fields, no_fields, fields, fields_of}
use Rattle.cad_json.specs.Read.{Reads, ReadsFields, no_field, one_field}
use Rattle.cad_json.specs.Words.{field_json, two}
use Rattle.cad_shapes.specs.Views.{same_name, names_differ}
use Rattle.cad_json_read.specs.Forms.{same_text, first_of}
use Rattle.cad_json_read.specs.Reading.{◌>>=◌, pair_of, value_named, field_value, value_at, field_of, each}
use Rattle.cad_json_read.proofs.Options.{bind_some, picked, some_is, text_is, text_same, flip, str_is, pair_is, pair_again}

abbrev Reader : Type 0
Reader = PureType → Data → Option PureValue

-- ---- the value of one field

named_is : (name : List ℕ) (o : Option (Data × Data)) (value : Data) → value_named name o ≡ Some value → (p : Data × Data) × (o ≡ Some p) × (p.0 ≡ string name) × (p.1 ≡ value)
named_is name None value e = absurd cc
named_is name (Some p) value e =
    let b = bind_some (as_str p.0) (λ text. if same_text text name then Some p.1 else None) value e in
    let q = picked (same_text b.0 name) (Some p.1) value b.2 in
    (p, refl, str_is p.0 b.0 b.1 ∙ ap string (text_is b.0 name q.0), some_is p.1 value q.1)

field_is : (name : List ℕ) (json value : Data) → field_value name json ≡ Some value → json ≡ field_json name value
field_is name json value e =
    let n = named_is name (pair_of (codes "name") (codes "value") json) value e in
    pair_is (codes "name") (codes "value") json n.0 n.1 ∙ (λ i. field_made (n.2 i) (n.3 i))
  where
    field_made : Data → Data → Data
    field_made first second = two (codes "name") first (codes "value") second

field_again : (name : List ℕ) (value : Data) → field_value name (field_json name value) ≡ Some value
field_again name value = rw (pair_again (codes "name") (codes "value") (string name) value, text_same name name refl) refl

field_other : (name other : List ℕ) (value : Data) → same_text name other ≡ false → field_value other (field_json name value) ≡ None
field_other name other value e = rw (pair_again (codes "name") (codes "value") (string name) value, e) refl

-- ---- the first field with a name

pub record Found (name : List ℕ) (all : List Data) (value : Data) : Type 0 where
  pub before : List Data
  pub behind : List Data
  pub place : all ≡ before ++ field_json name value ∷ behind

pub split : (name : List ℕ) (all : List Data) (value : Data) → value_at name all ≡ Some value → Found name all value
split name [] value e = absurd cc
split name (json ∷ all) value e = go (field_value name json) refl e (split name all value)
  where
    go : (o : Option Data) → field_value name json ≡ o → first_of o (value_at name all) ≡ Some value → (value_at name all ≡ Some value → Found name all value) → Found name (json ∷ all) value
    go None h e rest = let f = rest e in record { before = json ∷ f.before; behind = f.behind; place = ap (λ (w : List Data). json ∷ w) f.place }
    go (Some x) h e rest = record { before = []; behind = all; place = ap (λ (w : Data). w ∷ all) (field_is name json x h ∙ ap (field_json name) (some_is x value e)) }

pub other_at : (name other : List ℕ) (value : Data) (before behind : List Data) → same_text name other ≡ false → value_at other (before ++ field_json name value ∷ behind) ≡ value_at other (before ++ behind)
other_at name other value [] behind e = ap (λ (o : Option Data). first_of o (value_at other behind)) (field_other name other value e)
other_at name other value (json ∷ before) behind e = ap (first_of (field_value other json)) (other_at name other value before behind e)

pub own_at : (name : List ℕ) (value : Data) (before behind : List Data) → value_at name (before ++ behind) ≡ None → value_at name (before ++ field_json name value ∷ behind) ≡ Some value
own_at name value [] behind e = ap (λ (o : Option Data). first_of o (value_at name behind)) (field_again name value)
own_at name value (json ∷ before) behind e = go (field_value name json) e (own_at name value before behind)
  where
    go : (o : Option Data) → first_of o (value_at name (before ++ behind)) ≡ None → (value_at name (before ++ behind) ≡ None → value_at name (before ++ field_json name value ∷ behind) ≡ Some value)
        → first_of o (value_at name (before ++ field_json name value ∷ behind)) ≡ Some value
    go None h rest = rest h
    go (Some x) h rest = absurd cc

-- ---- what other fields read

pub others_read : (inner : Reader) (name : Name) (value : Data) (before behind : List Data) (rest : List ShapeField) → list_all (λ other. not (same_name other.name name)) rest ≡ true
    → each (field_of inner (before ++ field_json name.0 value ∷ behind)) rest ≡ each (field_of inner (before ++ behind)) rest
others_read inner name value before behind [] e = refl
others_read inner name value before behind (f ∷ rest) e =
    let parts = and_parts (not (same_name f.name name)) (list_all (λ other. not (same_name other.name name)) rest) e in
    let apart : same_text name.0 f.name.0 ≡ false = flip f.name.0 name.0 (not-true (same_name f.name name) parts.0) in
    let same = other_at name.0 f.name.0 value before behind apart in
    let later = others_read inner name value before behind rest parts.1 in
    λ i. (same i >>= λ json. inner f.is json >>= λ x. Some (record { name = f.name; value = x })) >>= λ y. later i >>= λ ys. Some (y ∷ ys)

pub length_around : (before behind : List Data) (json : Data) → length (before ++ json ∷ behind) ≡ suc (length (before ++ behind))
length_around [] behind json = refl
length_around (x ∷ before) behind json = ap suc (length_around before behind json)

pred : (a b : ℕ) → suc a ≡ suc b → a ≡ b
pred a b e = omega arith

-- ---- sound

pub record FieldsRead (k : Shapes) (n : ℕ) (declared : List ShapeField) (all : List Data) (fs : Fields) : Type 0 where
  pub reads : ReadsFields k declared all fs
  pub low : fields_height fs ≤ n

no_data : (all : List Data) → length all ≡ 0 → all ≡ []
no_data [] e = refl
no_data (x ∷ all) e = absurd (omega arith)

pub fields_sound : (k : Shapes) (n : ℕ) (inner : Reader) → ((want : PureType) (json : Data) (x : PureValue) → inner want json ≡ Some x → Reads k want json x × (height x ≤ n))
    → (declared : List ShapeField) → names_differ declared ≡ true → (all : List Data) (fs : List PureField) → length all ≡ length declared → each (field_of inner all) declared ≡ Some fs → FieldsRead k n declared all (fields_of fs)
fields_sound k n inner sound [] differ all fs len e =
    subst (λ (w : List PureField). FieldsRead k n [] all (fields_of w)) (some_is [] fs e)
    (subst (λ (w : List Data). FieldsRead k n [] w no_fields) (sym (no_data all len)) (record { reads = no_field; low = omega arith }))
fields_sound k n inner sound (f ∷ rest) differ all fs len e =
    let first = bind_some (field_of inner all f) (λ y. each (field_of inner all) rest >>= λ ys. Some (y ∷ ys)) fs e in
    let later = bind_some (each (field_of inner all) rest) (λ ys. Some (first.0 ∷ ys)) fs first.2 in
    let found = bind_some (value_at f.name.0 all) (λ json. inner f.is json >>= λ x. Some (record { name = f.name; value = x })) first.0 first.1 in
    let made = bind_some (inner f.is found.0) (λ x. Some (record { name = f.name; value = x })) first.0 found.2 in
    let place = split f.name.0 all found.0 found.1 in
    let parts = and_parts (list_all (λ other. not (same_name other.name f.name)) rest) (names_differ rest) differ in
    let fewer : length (place.before ++ place.behind) ≡ length rest = pred _ _ (sym (length_around place.before place.behind (field_json f.name.0 found.0)) ∙ ap length (sym place.place) ∙ len) in
    let same : each (field_of inner (place.before ++ place.behind)) rest ≡ Some later.0 = sym (others_read inner f.name found.0 place.before place.behind rest parts.0) ∙ ap (λ (w : List Data). each (field_of inner w) rest) (sym place.place) ∙ later.1 in
    let tail = fields_sound k n inner sound rest parts.1 (place.before ++ place.behind) later.0 fewer same in
    let head = sound f.is found.0 made.0 made.1 in
    let whole : FieldsRead k n (f ∷ rest) (place.before ++ field_json f.name.0 found.0 ∷ place.behind) (fields f.name made.0 (fields_of later.0)) =
    record { reads = one_field place.before place.behind head.0 tail.reads; low = omega (arith, head.1, tail.low) } in
    let shape : record { name = f.name; value = made.0 } ∷ later.0 ≡ fs = ap (λ (w : PureField). w ∷ later.0) (some_is (record { name = f.name; value = made.0 }) first.0 made.2) ∙ some_is (first.0 ∷ later.0) fs later.2 in
    subst (λ (w : List PureField). FieldsRead k n (f ∷ rest) all (fields_of w)) shape
    (subst (λ (w : List Data). FieldsRead k n (f ∷ rest) w (fields f.name made.0 (fields_of later.0))) (sym place.place) whole)

-- ---- complete

abbrev pub field_list : Fields → List PureField
field_list no_fields = []
field_list (fields n x fs) = record { name = n; value = x } ∷ field_list fs

pub fields_back : (fs : Fields) → fields_of (field_list fs) ≡ fs
fields_back no_fields = refl
fields_back (fields n x fs) = ap (fields n x) (fields_back fs)

pub absent : (k : Shapes) (name : Name) (rest : List ShapeField) (all : List Data) (fs : Fields) → ReadsFields k rest all fs → list_all (λ other. not (same_name other.name name)) rest ≡ true → value_at name.0 all ≡ None
absent k name _ _ _ no_field e = refl
absent k name _ _ _ (one_field {field} {rest} before behind {json} {x} {fs} r rs) e =
    let parts = and_parts (not (same_name field.name name)) (list_all (λ other. not (same_name other.name name)) rest) e in
    other_at field.name.0 name.0 json before behind (not-true (same_name field.name name) parts.0) ∙ absent k name rest (before ++ behind) fs rs parts.1
