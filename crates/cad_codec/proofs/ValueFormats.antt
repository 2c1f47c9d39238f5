-- Values are read from their bytes, and from no others.
use Rattle.std.proofs.Common.{◌≡◌, ◌≢◌, ℕ, zero, suc, ◌+◌, ◌/◌, ◌%◌, ◌^◌, ◌<◌, ◌≤◌, max, Bool, true, false, List, [], ◌∷◌, ◌++◌, length, Option, Some, None, refl, sym, ap, subst, ◌∙◌, append_assoc, arith}
use Rattle.std.specs.Prelude.{slice_get}
use Rattle.std.specs.List.{flat_map, AllByRecursion}
use Rattle.std.proofs.lemmas.Bool.{eqb-true}
use Rattle.std.proofs.lemmas.Bool.Decides.{Decides-eqb}
use Rattle.cad_syntax.specs.declared.address.Domain.{Domain}
use Rattle.cad_syntax.specs.declared.address.Domain.TheVariants as d
use Rattle.cad_syntax.specs.declared.address.Path.{Path}
use Rattle.cad_syntax.specs.declared.kind.Kind.TheVariants.{Address}
use Rattle.cad_syntax.specs.declared.num.Num.{Num}
use Rattle.cad_syntax.specs.declared.type_id.TypeId.{TypeId}
use Rattle.cad_syntax.specs.Types.{PureType}
use Rattle.cad_number_codec.proofs.Numbers.{magnitude_below}
use Rattle.cad_number_codec.specs.Parts.{parts_at}
use Rattle.cad_number_codec.specs.Spelling.{kind_byte, sign_byte, magnitude_field}
use Rattle.cad_text.specs.Texts.{characters}
use Rattle.cad_values.specs.Fits.{IsCharacter}
use Rattle.cad_values.specs.Keys.{Distinct, KeysDiffer}
use Rattle.cad_values.specs.Sizes.{height, values_height, entries_height, fields_height, most_high}
use Rattle.cad_values.specs.Values as v
use Rattle.cad_values.specs.Values.{PureValue, PureEntry, PureField, Values, values_of, elements, Entries, entries_of, keys, Fields, fields_of, names}
use Rattle.cad_wire.specs.Fields.{◌>>=◌, byte_at, number_at, length_at, number_field, bytes_field, AreBytes}
use Rattle.cad_wire.proofs.FieldLaws.{bind_some, some_is, Takes, Takes-then, byte_takes, number_takes, number_again}
use Rattle.cad_codec.specs.TypeBytes.{word, counted, id_bytes, type_bytes}
use Rattle.cad_codec.specs.ValueBytes.{domain_byte, value_bytes, values_bytes, entries_bytes, fields_bytes}
use Rattle.cad_codec.specs.Ranges.{TextInRange, NameInRange, IdInRange, InRange}
use Rattle.cad_codec.specs.Forms.{TypeHasBytes, IsForm, HasBytes}
use Rattle.cad_codec.specs.Code.Fields.{At, then_at, made_at, found_at, tested_at, list_at, text_at, name_at, id_at}
use Rattle.cad_codec.specs.Code.Values.{value_forms, bool_of, domain_of, number_of, as_path, is_cluster, keys_differ, names_differ, entry_of, field_of, entry_at, field_at, whole_type_at, value_after, value_at}
use Rattle.cad_codec.specs.declared.form.ValueForm.{ValueForm}
use Rattle.cad_codec.specs.declared.form.ValueForm.TheVariants as f
use Rattle.cad_codec.proofs.Formats.{IsFormat, words, pairs, tested, found, made, lists, texts, name_format, ids_one}
use Rattle.cad_codec.proofs.Keys.{keys_apart, apart_keys, names_apart, apart_names}
use Rattle.cad_codec.proofs.Lists.{ValueOk, values_flat, values_count, values_back, values_valid, values_split, EntryOk, entry_list, entry_field, entries_flat, entries_count, entries_back, entries_valid, entries_split, FieldOk, field_list, field_bytes, fields_flat, fields_count, fields_back, fields_valid, fields_split}
use Rattle.cad_codec.proofs.NumberParts.{truth, truth_found, number_found, number_has}
use Rattle.cad_codec.proofs.Tables.{Numbered}
use Rattle.cad_codec.proofs.TypeFormats.{Any, one_byte, bytes_one, tagged, made_again, form_takes, whole_types}

-- ---- numbers, truth values and paths

abbrev Parts : Type 0
Parts = ℕ × ℕ × ℕ × ℕ

abbrev parts_field : Parts → List ℕ
parts_field p = p.0 ∷ p.1 ∷ (number_field p.2 ++ number_field p.3)

abbrev PartsFit : Parts → Type 0
PartsFit p = (p.2 < 2 ^ 64) × (p.3 < 2 ^ 64)

parts_again : (p : Parts) (rest : List ℕ) → PartsFit p → parts_at (parts_field p ++ rest) ≡ Some (p, rest)
unfolding parts_at
parts_again p rest fits =
    ap (λ o. o >>= λ upper. number_at upper.1 >>= λ lower. Some ((p.0, p.1, upper.0, lower.0), lower.1)) (number_again p.2 (number_field p.3 ++ rest) fits.0)
    ∙ ap (λ o. o >>= λ lower. Some ((p.0, p.1, p.2, lower.0), lower.1)) (number_again p.3 rest fits.1)

parts_take : (bytes : List ℕ) (p : Parts) (rest : List ℕ) → AreBytes bytes → parts_at bytes ≡ Some (p, rest) → Takes bytes (parts_field p) rest × PartsFit p
unfolding parts_at
parts_take bytes p rest fits e =
    let a = bind_some (byte_at bytes) (λ kind. byte_at kind.1 >>= λ sign. number_at sign.1 >>= λ upper. number_at upper.1 >>= λ lower. Some ((kind.0, sign.0, upper.0, lower.0), lower.1)) (p, rest) e in
    let b = bind_some (byte_at a.0.1) (λ sign. number_at sign.1 >>= λ upper. number_at upper.1 >>= λ lower. Some ((a.0.0, sign.0, upper.0, lower.0), lower.1)) (p, rest) a.2 in
    let c = bind_some (number_at b.0.1) (λ upper. number_at upper.1 >>= λ lower. Some ((a.0.0, b.0.0, upper.0, lower.0), lower.1)) (p, rest) b.2 in
    let d = bind_some (number_at c.0.1) (λ lower. Some ((a.0.0, b.0.0, c.0.0, lower.0), lower.1)) (p, rest) c.2 in
    let ta = byte_takes bytes a.0.0 a.0.1 fits a.1 in
    let tb = byte_takes a.0.1 b.0.0 b.0.1 ta.rest_fits b.1 in
    let tc = number_takes b.0.1 c.0.0 c.0.1 tb.rest_fits c.1 in
    let td = number_takes c.0.1 d.0.0 d.0.1 tc.0.rest_fits d.1 in
    let last = Takes-then b.0.1 (number_field c.0.0) c.0.1 (number_field d.0.0) d.0.1 tc.0 td.0 in
    let more = Takes-then a.0.1 (b.0.0 ∷ []) b.0.1 (number_field c.0.0 ++ number_field d.0.0) d.0.1 tb last in
    let all = Takes-then bytes (a.0.0 ∷ []) a.0.1 (b.0.0 ∷ (number_field c.0.0 ++ number_field d.0.0)) d.0.1 ta more in
    subst (λ (x : Parts × List ℕ). Takes bytes (parts_field x.0) x.1 × PartsFit x.0) (some_is ((a.0.0, b.0.0, c.0.0, d.0.0), d.0.1) (p, rest) d.2) (all, (tc.1, td.1))

parts_format : IsFormat parts_field PartsFit parts_at
parts_format = record { again = parts_again; take = parts_take }

abbrev num_field : Num → List ℕ
num_field n = kind_byte n.kind ∷ sign_byte n.negative ∷ magnitude_field n.magnitude

abbrev IsValueNum : Num → Type 0
IsValueNum n = n.kind ≢ Address

abbrev num_parts : Num → Parts
num_parts n = (kind_byte n.kind, sign_byte n.negative, n.magnitude / 2 ^ 64, n.magnitude % 2 ^ 64)

num_back : (n : Num) → IsValueNum n → PartsFit (num_parts n) × (parts_field (num_parts n) ≡ num_field n) × (number_of (num_parts n) ≡ Some n)
num_back n valid =
    let upper : n.magnitude / 2 ^ 64 < 2 ^ 64 = omega (arith, magnitude_below n) in
    let lower : n.magnitude % 2 ^ 64 < 2 ^ 64 = omega arith in
    ((upper, lower), refl, number_found n (kind_byte n.kind) (sign_byte n.negative) (n.magnitude / 2 ^ 64) (n.magnitude % 2 ^ 64) (record { a_number = valid; kind_is = refl; sign_is = refl; upper_is = refl; lower_is = refl }))

num_forth : (p : Parts) (n : Num) → PartsFit p → number_of p ≡ Some n → IsValueNum n × (parts_field p ≡ num_field n)
num_forth p n fits e =
    let has = number_has n p.0 p.1 p.2 p.3 fits.1 e in
    (has.a_number, λ i. has.kind_is i ∷ has.sign_is i ∷ (number_field (has.upper_is i) ++ number_field (has.lower_is i)))

num_format : IsFormat num_field IsValueNum (found_at parts_at number_of)
num_format = found num_field IsValueNum number_of num_parts num_back num_forth parts_format

abbrev bool_field : Bool → List ℕ
bool_field x = sign_byte x ∷ []

bool_format : IsFormat bool_field Any (found_at byte_at bool_of)
bool_format = found bool_field Any bool_of sign_byte (λ x valid. (tt, refl, truth_found x)) (λ n x valid e. (tt, ap one_byte (truth n x e))) bytes_one

domain_found : (x : Domain) → domain_of (domain_byte x) ≡ Some x
domain_found d.Storage = refl
domain_found d.Public = refl

domain_is : (n : ℕ) (x : Domain) → domain_of n ≡ Some x → n ≡ domain_byte x
domain_is zero d.Storage e = refl
domain_is zero d.Public e = absurd cc
domain_is (suc zero) d.Storage e = absurd cc
domain_is (suc zero) d.Public e = refl
domain_is (suc (suc n)) x e = absurd cc

abbrev domain_field : Domain → List ℕ
domain_field x = domain_byte x ∷ []

domain_format : IsFormat domain_field Any (found_at byte_at domain_of)
domain_format = found domain_field Any domain_of domain_byte (λ x valid. (tt, refl, domain_found x)) (λ n x valid e. (tt, ap one_byte (domain_is n x e))) bytes_one

abbrev path_field : Path → List ℕ
path_field p = domain_byte p.domain ∷ bytes_field p.identifier.0

abbrev PathInRange : Path → Type 0
PathInRange p = NameInRange p.identifier

path_format : IsFormat path_field PathInRange (made_at (then_at (found_at byte_at domain_of) name_at) as_path)
path_format = made path_field PathInRange as_path (λ p. (p.domain, p.identifier)) (λ p valid. ((tt, valid), refl, refl)) (λ x valid. (valid.1, refl)) (pairs domain_format name_format)

cluster_format : IsFormat bytes_field (λ text. TextInRange text × (is_cluster text ≡ true)) (tested_at text_at is_cluster)
cluster_format = tested is_cluster texts

-- ---- what stands in containers

entry_format : (h : ℕ) → IsFormat value_bytes (ValueOk h) (value_at h) → IsFormat entry_field (EntryOk h) (entry_at (value_at h))
entry_format h inner = made entry_field (EntryOk h) entry_of (λ e. (e.key, e.value)) (λ e valid. (valid, refl, refl)) (λ x valid. (valid, refl)) (pairs inner inner)

field_format : (h : ℕ) → IsFormat value_bytes (ValueOk h) (value_at h) → IsFormat field_bytes (FieldOk h) (field_at (value_at h))
field_format h inner = made field_bytes (FieldOk h) field_of (λ x. (x.name, x.value)) (λ x valid. (valid, refl, refl)) (λ x valid. (valid, refl)) (pairs name_format inner)

-- ---- values

abbrev value_number : ValueForm → ℕ
value_number f.Void = 0
value_number f.Nil = 1
value_number f.Some = 2
value_number f.Bool = 3
value_number f.Number = 4
value_number f.String = 5
value_number f.Character = 6
value_number f.Address = 7
value_number f.Path = 8
value_number f.Meta = 9
value_number f.Capability = 10
value_number f.Array = 11
value_number f.Dictionary = 12
value_number f.Composite = 13

forms_numbered : Numbered value_number 0 value_forms
forms_numbered = (refl, (refl, (refl, (refl, (refl, (refl, (refl, (refl, (refl, (refl, (refl, (refl, (refl, (refl, tt))))))))))))))

abbrev Taken : ℕ → List ℕ → PureValue → List ℕ → Type 0
Taken h bytes x rest = Takes bytes (value_bytes x) rest × ValueOk (suc h) x

abbrev Inner : ℕ → Type 0
Inner h = IsFormat value_bytes (ValueOk h) (value_at h)

-- containers of some parts

array_again : (h : ℕ) → Inner h → (t : PureType) (xs : List PureValue) (rest : List ℕ) → TypeHasBytes t → length xs < 2 ^ 32 → AllByRecursion (ValueOk h) xs
    → value_at (suc h) (value_bytes (v.array t (values_of xs)) ++ rest) ≡ Some (v.array t (values_of xs), rest)
unfolding value_at
array_again h inner t xs rest has few all =
    let count : length (elements (values_of xs)) ≡ length xs = sym (values_count xs) in
    let flat : values_bytes (values_of xs) ≡ flat_map value_bytes xs = sym (values_flat xs) in
    (λ i. value_at (suc h) (11 ∷ ((type_bytes t ++ counted (count i) (flat i)) ++ rest)))
    ∙ made_again (then_at whole_type_at (list_at (value_at h))) (λ x. v.array x.0 (values_of x.1)) ((type_bytes t ++ counted (length xs) (flat_map value_bytes xs)) ++ rest) rest (t, xs)
    ((pairs whole_types (lists inner)).again (t, xs) rest (has, (few, all)))

dictionary_again : (h : ℕ) → Inner h → (k t : PureType) (xs : List PureEntry) (rest : List ℕ) → TypeHasBytes k → TypeHasBytes t → length xs < 2 ^ 32 → AllByRecursion (EntryOk h) xs → KeysDiffer (keys (entries_of xs))
    → value_at (suc h) (value_bytes (v.dictionary k t (entries_of xs)) ++ rest) ≡ Some (v.dictionary k t (entries_of xs), rest)
unfolding value_at
dictionary_again h inner k t xs rest has_k has_t few all apart =
    let count : length (keys (entries_of xs)) ≡ length xs = sym (entries_count xs) in
    let flat : entries_bytes (entries_of xs) ≡ flat_map entry_field xs = sym (entries_flat xs) in
    (λ i. value_at (suc h) (12 ∷ ((type_bytes k ++ (type_bytes t ++ counted (count i) (flat i))) ++ rest)))
    ∙ made_again (then_at whole_type_at (then_at whole_type_at (tested_at (list_at (entry_at (value_at h))) keys_differ))) (λ x. v.dictionary x.0 x.1.0 (entries_of x.1.1))
    ((type_bytes k ++ (type_bytes t ++ counted (length xs) (flat_map entry_field xs))) ++ rest) rest (k, (t, xs))
    ((pairs whole_types (pairs whole_types (tested keys_differ (lists (entry_format h inner))))).again (k, (t, xs)) rest (has_k, (has_t, ((few, all), apart_keys h inner xs all apart))))

composite_again : (h : ℕ) → Inner h → (id : TypeId) (n : ℕ) (xs : List PureField) (rest : List ℕ) → IdInRange id → n < 2 ^ 64 → length xs < 2 ^ 32 → AllByRecursion (FieldOk h) xs → Distinct (names (fields_of xs))
    → value_at (suc h) (value_bytes (v.composite id n (fields_of xs)) ++ rest) ≡ Some (v.composite id n (fields_of xs), rest)
unfolding value_at
composite_again h inner id n xs rest has fits few all apart =
    let count : length (names (fields_of xs)) ≡ length xs = sym (fields_count xs) in
    let flat : fields_bytes (fields_of xs) ≡ flat_map field_bytes xs = sym (fields_flat xs) in
    (λ i. value_at (suc h) (13 ∷ ((id_bytes id ++ (word n ++ counted (count i) (flat i))) ++ rest)))
    ∙ made_again (then_at id_at (then_at number_at (tested_at (list_at (field_at (value_at h))) names_differ))) (λ x. v.composite x.0 x.1.0 (fields_of x.1.1))
    ((id_bytes id ++ (word n ++ counted (length xs) (flat_map field_bytes xs))) ++ rest) rest (id, (n, xs))
    ((pairs ids_one (pairs words (tested names_differ (lists (field_format h inner))))).again (id, (n, xs)) rest (has, (fits, ((few, all), apart_names h xs all apart))))

abbrev Again : ℕ → List ℕ → PureValue → Type 0
Again h rest x = value_at (suc h) (value_bytes x ++ rest) ≡ Some (x, rest)

value_again : (h : ℕ) → Inner h → (x : PureValue) (rest : List ℕ) → ValueOk (suc h) x → value_at (suc h) (value_bytes x ++ rest) ≡ Some (x, rest)
unfolding value_at
value_again h inner v.void rest ok = refl
value_again h inner v.nil rest ok = refl
value_again h inner (v.some x) rest ok = made_again (value_at h) v.some (value_bytes x ++ rest) rest x (inner.again x rest (ok.0, ok.1, omega (arith, ok.2)))
value_again h inner (v.bool x) rest ok = made_again (found_at byte_at bool_of) v.bool (sign_byte x ∷ rest) rest x (bool_format.again x rest tt)
value_again h inner (v.number n) rest ok = made_again (found_at parts_at number_of) v.number (num_field n ++ rest) rest n (num_format.again n rest ok.1)
value_again h inner (v.string text) rest ok = made_again text_at v.string (bytes_field text ++ rest) rest text (texts.again text rest ok.0)
value_again h inner (v.character text) rest ok =
    made_again (tested_at text_at is_cluster) v.character (bytes_field text ++ rest) rest text (cluster_format.again text rest (ok.0, (Decides-eqb (length (characters text)) 1).1 ok.1))
value_again h inner (v.address a) rest ok = made_again number_at (λ n. v.address (record { 0 = n })) (word a.0 ++ rest) rest a.0 (words.again a.0 rest ok.0)
value_again h inner (v.path p) rest ok = made_again (made_at (then_at (found_at byte_at domain_of) name_at) as_path) v.path (path_field p ++ rest) rest p (path_format.again p rest ok.0)
value_again h inner (v.meta t) rest ok = made_again whole_type_at v.meta (type_bytes t ++ rest) rest t (whole_types.again t rest (ok.0, ok.1))
value_again h inner (v.capability a n t) rest ok =
    made_again (then_at number_at (then_at number_at whole_type_at)) (λ x. v.capability (record { 0 = x.0 }) x.1.0 x.1.1) ((word a.0 ++ (word n ++ type_bytes t)) ++ rest) rest (a.0, (n, t))
    ((pairs words (pairs words whole_types)).again (a.0, (n, t)) rest (ok.0.0, (ok.0.1, (ok.0.2, ok.1))))
value_again h inner (v.array t vs) rest ok =
    subst (λ (ws : Values). Again h rest (v.array t ws)) (values_back vs)
    (array_again h inner t (elements vs) rest (ok.0.0, ok.1.0) ok.0.1 (values_split h vs ok.0.2 ok.1.1 (omega (arith, ok.2))))
value_again h inner (v.dictionary k t es) rest ok =
    let few : length (entry_list es) < 2 ^ 32 = subst (λ (n : ℕ). n < 2 ^ 32) (sym (entries_count (entry_list es) ∙ ap (λ (e : Entries). length (keys e)) (entries_back es))) ok.0.2 in
    let apart : KeysDiffer (keys (entries_of (entry_list es))) = subst (λ (e : Entries). KeysDiffer (keys e)) (sym (entries_back es)) ok.1.3 in
    subst (λ (e : Entries). Again h rest (v.dictionary k t e)) (entries_back es)
    (dictionary_again h inner k t (entry_list es) rest (ok.0.0, ok.1.0) (ok.0.1, ok.1.1) few (entries_split h es ok.0.3 ok.1.2 (omega (arith, ok.2))) apart)
value_again h inner (v.composite id n fs) rest ok =
    let few : length (field_list fs) < 2 ^ 32 = subst (λ (n : ℕ). n < 2 ^ 32) (sym (fields_count (field_list fs) ∙ ap (λ (e : Fields). length (names e)) (fields_back fs))) ok.0.2 in
    let apart : Distinct (names (fields_of (field_list fs))) = subst (λ (e : Fields). Distinct (names e)) (sym (fields_back fs)) ok.1.1 in
    subst (λ (e : Fields). Again h rest (v.composite id n e)) (fields_back fs)
    (composite_again h inner id n (field_list fs) rest ok.0.0 ok.0.1 few (fields_split h fs ok.0.3 ok.1.0 (omega (arith, ok.2))) apart)
value_again h inner (v.reference a t to) rest ok = absurd ok.1

-- ---- and what is read

array_made : (h : ℕ) (x : PureType × List PureValue) → TypeHasBytes x.0 × ((length x.1 < 2 ^ 32) × AllByRecursion (ValueOk h) x.1)
    → ValueOk (suc h) (v.array x.0 (values_of x.1)) × (11 ∷ (type_bytes x.0 ++ counted (length x.1) (flat_map value_bytes x.1)) ≡ value_bytes (v.array x.0 (values_of x.1)))
array_made h x valid =
    let ok = values_valid h x.1 valid.1.1 in
    let few : length (elements (values_of x.1)) < 2 ^ 32 = subst (λ (n : ℕ). n < 2 ^ 32) (values_count x.1) valid.1.0 in
    (((valid.0.0, few, ok.in_range), (valid.0.1, ok.are_forms), omega (arith, ok.high)), λ i. 11 ∷ (type_bytes x.0 ++ counted (values_count x.1 i) (values_flat x.1 i)))

dictionary_made : (h : ℕ) (x : PureType × (PureType × List PureEntry)) → TypeHasBytes x.0 × (TypeHasBytes x.1.0 × (((length x.1.1 < 2 ^ 32) × AllByRecursion (EntryOk h) x.1.1) × (keys_differ x.1.1 ≡ true)))
    → ValueOk (suc h) (v.dictionary x.0 x.1.0 (entries_of x.1.1)) × (12 ∷ (type_bytes x.0 ++ (type_bytes x.1.0 ++ counted (length x.1.1) (flat_map entry_field x.1.1))) ≡ value_bytes (v.dictionary x.0 x.1.0 (entries_of x.1.1)))
dictionary_made h x valid =
    let ok = entries_valid h x.1.1 valid.1.1.0.1 in
    let few : length (keys (entries_of x.1.1)) < 2 ^ 32 = subst (λ (n : ℕ). n < 2 ^ 32) (entries_count x.1.1) valid.1.1.0.0 in (
      ((valid.0.0, valid.1.0.0, few, ok.in_range), (valid.0.1, valid.1.0.1, ok.are_forms, keys_apart h x.1.1 valid.1.1.0.1 valid.1.1.1), omega (arith, ok.high)),
      λ i. 12 ∷ (type_bytes x.0 ++ (type_bytes x.1.0 ++ counted (entries_count x.1.1 i) (entries_flat x.1.1 i))),
    )

composite_made : (h : ℕ) (x : TypeId × (ℕ × List PureField)) → IdInRange x.0 × ((x.1.0 < 2 ^ 64) × (((length x.1.1 < 2 ^ 32) × AllByRecursion (FieldOk h) x.1.1) × (names_differ x.1.1 ≡ true)))
    → ValueOk (suc h) (v.composite x.0 x.1.0 (fields_of x.1.1)) × (13 ∷ (id_bytes x.0 ++ (word x.1.0 ++ counted (length x.1.1) (flat_map field_bytes x.1.1))) ≡ value_bytes (v.composite x.0 x.1.0 (fields_of x.1.1)))
composite_made h x valid =
    let ok = fields_valid h x.1.1 valid.1.1.0.1 in
    let few : length (names (fields_of x.1.1)) < 2 ^ 32 = subst (λ (n : ℕ). n < 2 ^ 32) (fields_count x.1.1) valid.1.1.0.0 in (
      ((valid.0, valid.1.0, few, ok.in_range), (ok.are_forms, names_apart h x.1.1 valid.1.1.0.1 valid.1.1.1), omega (arith, ok.high)),
      λ i. 13 ∷ (id_bytes x.0 ++ (word x.1.0 ++ counted (fields_count x.1.1 i) (fields_flat x.1.1 i))),
    )

abbrev read_as : PureValue → List ℕ → Option (PureValue × List ℕ)
read_as x more = Some (x, more)

bare : (h tag : ℕ) (x y : PureValue) (more rest : List ℕ) → AreBytes more → value_bytes x ≡ tag ∷ [] → ValueOk (suc h) x → read_as x more ≡ read_as y rest → Taken h (tag ∷ more) y rest
bare h tag x y more rest fits is ok e =
    subst (λ (z : PureValue × List ℕ). Taken h (tag ∷ more) z.0 z.1) (some_is (x, more) (y, rest) e) (record { parts = ap (λ (w : List ℕ). w ++ more) (sym is); rest_fits = fits }, ok)

value_after_takes : (h : ℕ) → Inner h → (form : ValueForm) (more : List ℕ) (x : PureValue) (rest : List ℕ) → AreBytes more → value_after (value_at h) form more ≡ Some (x, rest) → Taken h (value_number form ∷ more) x rest
value_after_takes h inner f.Void more x rest fits e = bare h 0 v.void x more rest fits refl (tt, tt, omega arith) e
value_after_takes h inner f.Nil more x rest fits e = bare h 1 v.nil x more rest fits refl (tt, tt, omega arith) e
value_after_takes h inner f.Some more x rest fits e = tagged value_bytes (ValueOk (suc h)) v.some 2 (λ y valid. ((valid.0, valid.1, omega (arith, valid.2)), refl)) inner more x rest fits e
value_after_takes h inner f.Bool more x rest fits e = tagged value_bytes (ValueOk (suc h)) v.bool 3 (λ y valid. ((tt, tt, omega arith), refl)) bool_format more x rest fits e
value_after_takes h inner f.Number more x rest fits e = tagged value_bytes (ValueOk (suc h)) v.number 4 (λ y valid. ((tt, valid, omega arith), refl)) num_format more x rest fits e
value_after_takes h inner f.String more x rest fits e = tagged value_bytes (ValueOk (suc h)) v.string 5 (λ y valid. ((valid, tt, omega arith), refl)) texts more x rest fits e
value_after_takes h inner f.Character more x rest fits e =
    tagged value_bytes (ValueOk (suc h)) v.character 6 (λ y valid. ((valid.0, (Decides-eqb (length (characters y)) 1).0 valid.1, omega arith), refl)) cluster_format more x rest fits e
value_after_takes h inner f.Address more x rest fits e = tagged value_bytes (ValueOk (suc h)) (λ n. v.address (record { 0 = n })) 7 (λ y valid. ((valid, tt, omega arith), refl)) words more x rest fits e
value_after_takes h inner f.Path more x rest fits e = tagged value_bytes (ValueOk (suc h)) v.path 8 (λ y valid. ((valid, tt, omega arith), refl)) path_format more x rest fits e
value_after_takes h inner f.Meta more x rest fits e = tagged value_bytes (ValueOk (suc h)) v.meta 9 (λ y valid. ((valid.0, valid.1, omega arith), refl)) whole_types more x rest fits e
value_after_takes h inner f.Capability more x rest fits e =
    tagged value_bytes (ValueOk (suc h)) (λ y. v.capability (record { 0 = y.0 }) y.1.0 y.1.1) 10 (λ y valid. (((valid.0, valid.1.0, valid.1.1.0), valid.1.1.1, omega arith), refl)) (pairs words (pairs words whole_types)) more x rest fits e
value_after_takes h inner f.Array more x rest fits e = tagged value_bytes (ValueOk (suc h)) (λ y. v.array y.0 (values_of y.1)) 11 (array_made h) (pairs whole_types (lists inner)) more x rest fits e
value_after_takes h inner f.Dictionary more x rest fits e =
    tagged value_bytes (ValueOk (suc h)) (λ y. v.dictionary y.0 y.1.0 (entries_of y.1.1)) 12 (dictionary_made h) (pairs whole_types (pairs whole_types (tested keys_differ (lists (entry_format h inner))))) more x rest fits e
value_after_takes h inner f.Composite more x rest fits e =
    tagged value_bytes (ValueOk (suc h)) (λ y. v.composite y.0 y.1.0 (fields_of y.1.1)) 13 (composite_made h) (pairs ids_one (pairs words (tested names_differ (lists (field_format h inner))))) more x rest fits e

value_take : (h : ℕ) → Inner h → (bytes : List ℕ) (x : PureValue) (rest : List ℕ) → AreBytes bytes → value_at (suc h) bytes ≡ Some (x, rest) → Taken h bytes x rest
unfolding value_at
value_take h inner bytes x rest fits e =
    let y = bind_some (found_at byte_at (slice_get value_forms) bytes) (λ form. value_after (value_at h) form.0 form.1) (x, rest) e in
    let head = form_takes value_forms value_number forms_numbered bytes y.0.0 y.0.1 fits y.1 in
    subst (λ (w : List ℕ). Taken h w x rest) (sym head.parts) (value_after_takes h inner y.0.0 y.0.1 x rest head.rest_fits y.2)

-- everything is at least 1 high
low : (x : PureValue) → height x ≤ 0 → ⊥
low v.void le = omega (arith, le)
low v.nil le = omega (arith, le)
low (v.some x) le = omega (arith, le)
low x le = omega (arith, le)

no_level : (bytes : List ℕ) (x : PureValue) (rest : List ℕ) → value_at 0 bytes ≡ Some (x, rest) → ⊥
unfolding value_at
no_level bytes x rest e = cc

pub whole_values : (h : ℕ) → IsFormat value_bytes (ValueOk h) (value_at h)
whole_values zero = record { again = λ x rest ok. absurd (low x ok.2); take = λ bytes x rest fits e. absurd (no_level bytes x rest e) }
whole_values (suc h) = record { again = value_again h (whole_values h); take = value_take h (whole_values h) }

pub values_with_bytes : IsFormat value_bytes HasBytes (value_at most_high)
values_with_bytes =
    let all = whole_values most_high in
    record {
      again = λ x rest has. all.again x rest (has.0, has.1.0, has.1.1);
      take = λ bytes x rest fits e.
          let t = all.take bytes x rest fits e in
          (t.0, (t.1.0, (t.1.1, t.1.2)));
    }
