-- The tests tell which values are of a type.
use Rattle.std.proofs.Common.{◌≡◌, ◌≢◌, ◌≤◌, ℕ, Bool, true, false, not, List, [], ◌∷◌, length, Option, Some, None, refl, sym, ap, ◌∙◌, arith}
use Rattle.std.specs.Prelude.{IsTrue, ◌↔◌, ◌&&◌, ◌||◌, ◌==◌, nat_le}
use Rattle.std.proofs.lemmas.Bool.{and_parts, and_from, eqb-true, eq-eqb, not-true, not_from_false}
use Rattle.std.proofs.lemmas.Str.{IsUtf8-from_is_utf8, is_utf8-from_IsUtf8}
use Rattle.std.specs.Str.{is_utf8}
use Rattle.cad_syntax.specs.Types.{PureType}
use Rattle.cad_syntax.specs.declared.kind.Kind.{Kind}
use Rattle.cad_syntax.specs.declared.kind.Kind.TheVariants as kind
use Rattle.cad_syntax.proofs.Same.{names_tell}
use Rattle.cad_text.specs.Texts.{characters, most_bytes}
use Rattle.cad_types.specs.Below.{below}
use Rattle.cad_types.specs.Sub.{Sub}
use Rattle.cad_types.specs.declared.declared.Sort.{Sort}
use Rattle.cad_types.specs.declared.declared.Sort.TheVariants as s
use Rattle.cad_shapes.specs.Views.{same_name}
use Rattle.cad_values.specs.Fits.{Fits, Holds, AllFit, EntriesFit, FieldsFit, IsOf, HasIdentity, HasCase, is_value_sort, is_case, most_elements}
use Rattle.cad_values.specs.Shapes.{Shape, ShapeField, Shapes, declarations, shape_of, shape_fields, is_type, is_key_type, is_reference_type, is_enum}
use Rattle.cad_values.specs.Types.{type_of_value}
use Rattle.cad_values.specs.Values.{PureValue, void, nil, some, bool, number, string, character, address, path, meta, capability, array, dictionary, composite, reference, Values, no_values, values, Entries, no_entries, entries, keys, elements, Fields, no_fields, fields}
use Rattle.cad_fits.specs.Keys.{Apart, ValuesApart, EntriesApart, FieldsApart}
use Rattle.cad_fits.specs.Tests as spec
use Rattle.cad_fits.specs.Tests.{is_address, is_number, is_text, is_one_character, has_identity, has_case, is_of, is_of_shape, holds, values_fit, entries_fit, fields_fit, is_array, is_dictionary, lends}

-- the order of types is told by its test
abbrev pub Tells : Shapes → Type 0
Tells k = (t u : PureType) → (below (declarations k) t u ≡ true) ↔ Sub (declarations k) t u

-- ---- single parts

pub number_so : (k : Kind) → is_number k ≡ true → k ≢ kind.Address
number_so k e same = let wrong : true ≡ false = sym e ∙ ap is_number same in absurd cc

so_number : (k : Kind) → k ≢ kind.Address → is_number k ≡ true
so_number kind.Address other = absurd (other refl)
so_number _ other = refl

pub low_so : (a b : ℕ) → nat_le a b ≡ true → a ≤ b
low_so a b e = grind arith

so_low : (a b : ℕ) → a ≤ b → nat_le a b ≡ true
so_low a b le = grind (arith, le)

identity_so : (sort : Sort) (n : ℕ) → has_identity sort n ≡ true → HasIdentity sort n
identity_so s.Resource n e = tt
identity_so s.Contract n e = eqb-true n 0 e
identity_so s.Struct n e = eqb-true n 0 e
identity_so s.Enum n e = eqb-true n 0 e
identity_so s.Event n e = eqb-true n 0 e
identity_so s.StructInterface n e = eqb-true n 0 e
identity_so s.ResourceInterface n e = eqb-true n 0 e

so_identity : (sort : Sort) (n : ℕ) → HasIdentity sort n → has_identity sort n ≡ true
so_identity s.Resource n h = refl
so_identity s.Contract n h = eq-eqb n 0 h
so_identity s.Struct n h = eq-eqb n 0 h
so_identity s.Enum n h = eq-eqb n 0 h
so_identity s.Event n h = eq-eqb n 0 h
so_identity s.StructInterface n h = eq-eqb n 0 h
so_identity s.ResourceInterface n h = eq-eqb n 0 h

either_so : (a b : Bool) → (not a || b) ≡ true → a ≡ true → b ≡ true
either_so true b e h = e
either_so false b e h = absurd cc

so_either : (a b : Bool) → (a ≡ true → b ≡ true) → (not a || b) ≡ true
so_either true b h = h refl
so_either false b h = refl

case_so : (shape : Shape) (fs : Fields) → has_case shape fs ≡ true → HasCase shape fs
case_so shape no_fields e = not-true (is_enum shape.sort) e
case_so shape (fields n v no_fields) e = either_so (is_enum shape.sort) (is_case shape v) e
case_so shape (fields n v (fields m w fs)) e = not-true (is_enum shape.sort) e

so_case : (shape : Shape) (fs : Fields) → HasCase shape fs → has_case shape fs ≡ true
so_case shape no_fields h = not_from_false (is_enum shape.sort) h
so_case shape (fields n v no_fields) h = so_either (is_enum shape.sort) (is_case shape v) h
so_case shape (fields n v (fields m w fs)) h = not_from_false (is_enum shape.sort) h

of_so : (n : ℕ) (fs : Fields) (o : Option Shape) → is_of_shape n fs o ≡ true → IsOf is_value_sort n fs o
of_so n fs None e = absurd cc
of_so n fs (Some shape) e =
    let p = and_parts (is_value_sort shape.sort) (has_identity shape.sort n && has_case shape fs) e in
    let q = and_parts (has_identity shape.sort n) (has_case shape fs) p.1 in
    (p.0, identity_so shape.sort n q.0, case_so shape fs q.1)

so_of : (n : ℕ) (fs : Fields) (o : Option Shape) → IsOf is_value_sort n fs o → is_of_shape n fs o ≡ true
so_of n fs None h = absurd h
so_of n fs (Some shape) h = and_from (is_value_sort shape.sort) (has_identity shape.sort n && has_case shape fs) h.0 (and_from (has_identity shape.sort n) (has_case shape fs) (so_identity shape.sort n h.1) (so_case shape fs h.2))

-- ---- what passes the test and has different keys holds

mutual
  pub holds_so : (k : Shapes) → Tells k → (v : PureValue) → holds k v ≡ true → Apart v → Holds k is_value_sort v
  holds_so k tells void e a = tt
  holds_so k tells nil e a = tt
  holds_so k tells (some v) e a = holds_so k tells v e a
  holds_so k tells (bool b) e a = tt
  holds_so k tells (number n) e a = number_so n.kind e
  holds_so k tells (string text) e a = let p = and_parts (is_utf8 text) (nat_le (length text) most_bytes) e in (IsUtf8-from_is_utf8 text p.0, low_so (length text) most_bytes p.1)
  holds_so k tells (character text) e a = let p = and_parts (is_utf8 text) (length (characters text) == 1) e in (IsUtf8-from_is_utf8 text p.0, eqb-true (length (characters text)) 1 p.1)
  holds_so k tells (address x) e a = tt
  holds_so k tells (path p) e a = tt
  holds_so k tells (meta t) e a = e
  holds_so k tells (capability x n lent) e a = let p = and_parts (is_reference_type lent) (is_type k lent) e in (p.0, p.1)
  holds_so k tells (array element vs) e a =
      let p = and_parts (is_array k element vs) (values_fit k element vs) e in
      let q = and_parts (is_type k element) (nat_le (length (elements vs)) most_elements) p.0 in
      (q.0, low_so (length (elements vs)) most_elements q.1, values_so k tells element vs p.1 a)
  holds_so k tells (dictionary key value es) e a =
      let p = and_parts (is_dictionary k key value es) (entries_fit k key value es) e in
      let q = and_parts (is_key_type k key) (is_type k value && nat_le (length (keys es)) most_elements) p.0 in
      let r = and_parts (is_type k value) (nat_le (length (keys es)) most_elements) q.1 in
      (and_from (is_key_type k key) (is_type k value) q.0 r.0, low_so (length (keys es)) most_elements r.1, a.0, entries_so k tells key value es p.1 a.1)
  holds_so k tells (composite id n fs) e a =
      let p = and_parts (is_of_shape n fs (shape_of k id)) (fields_fit k (shape_fields (shape_of k id)) fs) e in
      (of_so n fs (shape_of k id) p.0, fields_so k tells fs (shape_fields (shape_of k id)) p.1 a)
  holds_so k tells (reference x target to) e a = e

  values_so : (k : Shapes) → Tells k → (want : PureType) (vs : Values) → values_fit k want vs ≡ true → ValuesApart vs → AllFit k want vs
  values_so k tells want no_values e a = tt
  values_so k tells want (values v vs) e a =
      let p = and_parts (spec.is_below k v want) (holds k v && values_fit k want vs) e in
      let q = and_parts (holds k v) (values_fit k want vs) p.1 in
      ((tells (type_of_value v) want).0 p.0, holds_so k tells v q.0 a.0, values_so k tells want vs q.1 a.1)

  entries_so : (k : Shapes) → Tells k → (key want : PureType) (es : Entries) → entries_fit k key want es ≡ true → EntriesApart es → EntriesFit k key want es
  entries_so k tells key want no_entries e a = tt
  entries_so k tells key want (entries x v es) e a =
      let p = and_parts (spec.is_below k x key && (holds k x && (spec.is_below k v want && holds k v))) (entries_fit k key want es) e in
      let q = and_parts (spec.is_below k x key) (holds k x && (spec.is_below k v want && holds k v)) p.0 in
      let r = and_parts (holds k x) (spec.is_below k v want && holds k v) q.1 in
      let t = and_parts (spec.is_below k v want) (holds k v) r.1 in
      ((tells (type_of_value x) key).0 q.0, holds_so k tells x r.0 a.0.0, (tells (type_of_value v) want).0 t.0, holds_so k tells v t.1 a.0.1, entries_so k tells key want es p.1 a.1)

  pub fields_so : (k : Shapes) → Tells k → (fs : Fields) (declared : List ShapeField) → fields_fit k declared fs ≡ true → FieldsApart fs → FieldsFit k declared fs
  fields_so k tells no_fields [] e a = tt
  fields_so k tells no_fields (f ∷ declared) e a = absurd cc
  fields_so k tells (fields n v fs) [] e a = absurd cc
  fields_so k tells (fields n v fs) (f ∷ declared) e a =
      let p = and_parts (same_name n f.name && (spec.is_below k v f.is && holds k v)) (fields_fit k declared fs) e in
      let q = and_parts (same_name n f.name) (spec.is_below k v f.is && holds k v) p.0 in
      let r = and_parts (spec.is_below k v f.is) (holds k v) q.1 in
      ((names_tell n f.name).0 q.0, (tells (type_of_value v) f.is).0 r.0, holds_so k tells v r.1 a.0, fields_so k tells fs declared p.1 a.1)

-- ---- and what holds passes the test

mutual
  pub so_holds : (k : Shapes) → Tells k → (v : PureValue) → Holds k is_value_sort v → (holds k v ≡ true) × Apart v
  so_holds k tells void h = (refl, tt)
  so_holds k tells nil h = (refl, tt)
  so_holds k tells (some v) h = so_holds k tells v h
  so_holds k tells (bool b) h = (refl, tt)
  so_holds k tells (number n) h = (so_number n.kind h, tt)
  so_holds k tells (string text) h = (and_from (is_utf8 text) (nat_le (length text) most_bytes) (is_utf8-from_IsUtf8 text h.0) (so_low (length text) most_bytes h.1), tt)
  so_holds k tells (character text) h = (and_from (is_utf8 text) (length (characters text) == 1) (is_utf8-from_IsUtf8 text h.0) (eq-eqb (length (characters text)) 1 h.1), tt)
  so_holds k tells (address x) h = (refl, tt)
  so_holds k tells (path p) h = (refl, tt)
  so_holds k tells (meta t) h = (h, tt)
  so_holds k tells (capability x n lent) h = (and_from (is_reference_type lent) (is_type k lent) h.0 h.1, tt)
  so_holds k tells (array element vs) h =
      let rest = so_values k tells element vs h.2 in
      (and_from (is_array k element vs) (values_fit k element vs) (and_from (is_type k element) (nat_le (length (elements vs)) most_elements) h.0 (so_low (length (elements vs)) most_elements h.1)) rest.0, rest.1)
  so_holds k tells (dictionary key value es) h =
      let rest = so_entries k tells key value es h.3 in
      let p = and_parts (is_key_type k key) (is_type k value) h.0 in
      (and_from (is_dictionary k key value es) (entries_fit k key value es) (and_from (is_key_type k key) (is_type k value && nat_le (length (keys es)) most_elements) p.0 (and_from (is_type k value) (nat_le (length (keys es)) most_elements) p.1 (so_low (length (keys es)) most_elements h.1))) rest.0, (h.2, rest.1))
  so_holds k tells (composite id n fs) h =
      let rest = so_fields k tells fs (shape_fields (shape_of k id)) h.1 in
      (and_from (is_of_shape n fs (shape_of k id)) (fields_fit k (shape_fields (shape_of k id)) fs) (so_of n fs (shape_of k id) h.0) rest.0, rest.1)
  so_holds k tells (reference x target to) h = (h, tt)

  so_values : (k : Shapes) → Tells k → (want : PureType) (vs : Values) → AllFit k want vs → (values_fit k want vs ≡ true) × ValuesApart vs
  so_values k tells want no_values h = (refl, tt)
  so_values k tells want (values v vs) h =
      let first = so_holds k tells v h.1 in
      let rest = so_values k tells want vs h.2 in
      (and_from (spec.is_below k v want) (holds k v && values_fit k want vs) ((tells (type_of_value v) want).1 h.0) (and_from (holds k v) (values_fit k want vs) first.0 rest.0), (first.1, rest.1))

  so_entries : (k : Shapes) → Tells k → (key want : PureType) (es : Entries) → EntriesFit k key want es → (entries_fit k key want es ≡ true) × EntriesApart es
  so_entries k tells key want no_entries h = (refl, tt)
  so_entries k tells key want (entries x v es) h =
      let first = so_holds k tells x h.1 in
      let second = so_holds k tells v h.3 in
      let rest = so_entries k tells key want es h.4 in (
        and_from (spec.is_below k x key && (holds k x && (spec.is_below k v want && holds k v))) (entries_fit k key want es)
            (and_from (spec.is_below k x key) (holds k x && (spec.is_below k v want && holds k v)) ((tells (type_of_value x) key).1 h.0) (and_from (holds k x) (spec.is_below k v want && holds k v) first.0 (and_from (spec.is_below k v want) (holds k v) ((tells (type_of_value v) want).1 h.2) second.0)))
            rest.0,
        ((first.1, second.1), rest.1),
      )

  pub so_fields : (k : Shapes) → Tells k → (fs : Fields) (declared : List ShapeField) → FieldsFit k declared fs → (fields_fit k declared fs ≡ true) × FieldsApart fs
  so_fields k tells no_fields [] h = (refl, tt)
  so_fields k tells no_fields (f ∷ declared) h = absurd h
  so_fields k tells (fields n v fs) [] h = absurd h
  so_fields k tells (fields n v fs) (f ∷ declared) h =
      let first = so_holds k tells v h.2 in
      let rest = so_fields k tells fs declared h.3 in (
        and_from (same_name n f.name && (spec.is_below k v f.is && holds k v)) (fields_fit k declared fs)
            (and_from (same_name n f.name) (spec.is_below k v f.is && holds k v) ((names_tell n f.name).1 h.0) (and_from (spec.is_below k v f.is) (holds k v) ((tells (type_of_value v) f.is).1 h.1) first.0))
            rest.0,
        (first.1, rest.1),
      )

-- ---- both together

pub fit_tells : (k : Shapes) → Tells k → (v : PureValue) (want : PureType) (own differ : Bool) → own ≡ spec.fits k v want → (IsTrue differ ↔ Apart v) → (IsTrue (own && differ) ↔ Fits k v want)
fit_tells k tells v want own differ e apart = (
  λ h. let p = and_parts own differ h in
      let q = and_parts (spec.is_below k v want) (holds k v) (sym e ∙ p.0) in
      ((tells (type_of_value v) want).0 q.0, holds_so k tells v q.1 (apart.0 p.1)),
  λ h. let w = so_holds k tells v h.1 in
      and_from own differ (e ∙ and_from (spec.is_below k v want) (holds k v) ((tells (type_of_value v) want).1 h.0) w.0) (apart.1 w.1),
)

pub fit_fails : (k : Shapes) → Tells k → (v : PureValue) (want : PureType) (own : Bool) → own ≡ spec.fits k v want → own ≡ false → (IsTrue false ↔ Fits k v want)
fit_fails k tells v want own e wrong_own = (
  λ h. absurd (let wrong : false ≡ true = h in cc),
  λ h. no_fit (sym wrong_own ∙ (e ∙ and_from (spec.is_below k v want) (holds k v) ((tells (type_of_value v) want).1 h.0) (so_holds k tells v h.1).0)),
)
  where
    no_fit : false ≡ true → false ≡ true
    no_fit x = x

pub fit_so : (k : Shapes) → Tells k → (v : PureValue) (want : PureType) (own differ : Bool) → own ≡ spec.fits k v want → own ≡ true → (IsTrue differ ↔ Apart v) → (IsTrue differ ↔ Fits k v want)
fit_so k tells v want own differ e right apart = fit_tells k tells v want true differ (sym right ∙ e) apart
