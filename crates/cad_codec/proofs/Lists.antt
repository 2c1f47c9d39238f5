-- The parts of a value as lists: their bytes, how many they are, and what holds of each.
use Rattle.std.proofs.Common.{◌≡◌, ℕ, suc, ◌≤◌, max, List, [], ◌∷◌, ◌++◌, length, map, refl, sym, ap, ◌∙◌, arith}
use Rattle.std.proofs.lemmas.List.Concat.{flat_map-cons}
use Rattle.std.specs.List.{flat_map, AllByRecursion}
use Rattle.cad_syntax.specs.declared.text.Name.{Name}
use Rattle.cad_values.specs.Keys.{key_form}
use Rattle.cad_values.specs.Sizes.{height, values_height, entries_height, fields_height}
use Rattle.cad_values.specs.Values.{PureValue, PureEntry, PureField, Values, no_values, values, values_of, elements, Entries, no_entries, entries, entries_of, keys, Fields, no_fields, fields, fields_of, names}
use Rattle.cad_wire.specs.Fields.{bytes_field}
use Rattle.cad_codec.specs.Ranges.{InRange, NameInRange, ValuesInRange, EntriesInRange, FieldsInRange}
use Rattle.cad_codec.specs.Forms.{IsForm, AreForms, EntriesAreForms, FieldsAreForms}
use Rattle.cad_codec.specs.ValueBytes.{value_bytes, values_bytes, entries_bytes, fields_bytes}

-- a value that is read where so many levels are left
abbrev pub ValueOk : ℕ → PureValue → Type 0
ValueOk h v = InRange v × IsForm v × (height v ≤ h)

-- ---- elements

pub values_flat : (xs : List PureValue) → flat_map value_bytes xs ≡ values_bytes (values_of xs)
values_flat [] = refl
values_flat (x ∷ xs) = flat_map-cons value_bytes x xs ∙ ap (λ (w : List ℕ). value_bytes x ++ w) (values_flat xs)

pub values_count : (xs : List PureValue) → length xs ≡ length (elements (values_of xs))
values_count [] = refl
values_count (x ∷ xs) = ap suc (values_count xs)

pub values_back : (vs : Values) → values_of (elements vs) ≡ vs
values_back no_values = refl
values_back (values v vs) = ap (values v) (values_back vs)

pub record ValuesOk (h : ℕ) (vs : Values) : Type 0 where
  pub in_range : ValuesInRange vs
  pub are_forms : AreForms vs
  pub high : values_height vs ≤ h

pub values_valid : (h : ℕ) (xs : List PureValue) → AllByRecursion (ValueOk h) xs → ValuesOk h (values_of xs)
values_valid h [] all = record { in_range = tt; are_forms = tt; high = omega arith }
values_valid h (x ∷ xs) all =
    let rest = values_valid h xs all.1 in
    record { in_range = (all.0.0, rest.in_range); are_forms = (all.0.1, rest.are_forms); high = omega (arith, all.0.2, rest.high) }

pub values_split : (h : ℕ) (vs : Values) → ValuesInRange vs → AreForms vs → values_height vs ≤ h → AllByRecursion (ValueOk h) (elements vs)
values_split h no_values in_range forms high = tt
values_split h (values v vs) in_range forms high = ((in_range.0, forms.0, omega arith), values_split h vs in_range.1 forms.1 (omega arith))

-- ---- entries

abbrev pub entry_list : Entries → List PureEntry
entry_list no_entries = []
entry_list (entries k v es) = record { key = k; value = v } ∷ entry_list es

abbrev pub entry_field : PureEntry → List ℕ
entry_field e = value_bytes e.key ++ value_bytes e.value

abbrev pub EntryOk : ℕ → PureEntry → Type 0
EntryOk h e = ValueOk h e.key × ValueOk h e.value

pub entries_flat : (es : List PureEntry) → flat_map entry_field es ≡ entries_bytes (entries_of es)
entries_flat [] = refl
entries_flat (e ∷ es) = flat_map-cons entry_field e es ∙ ap (λ (w : List ℕ). entry_field e ++ w) (entries_flat es)

pub entries_count : (es : List PureEntry) → length es ≡ length (keys (entries_of es))
entries_count [] = refl
entries_count (e ∷ es) = ap suc (entries_count es)

pub entries_back : (es : Entries) → entries_of (entry_list es) ≡ es
entries_back no_entries = refl
entries_back (entries k v es) = ap (entries k v) (entries_back es)

pub record EntriesOk (h : ℕ) (es : Entries) : Type 0 where
  pub in_range : EntriesInRange es
  pub are_forms : EntriesAreForms es
  pub high : entries_height es ≤ h

pub entries_valid : (h : ℕ) (es : List PureEntry) → AllByRecursion (EntryOk h) es → EntriesOk h (entries_of es)
entries_valid h [] all = record { in_range = tt; are_forms = tt; high = omega arith }
entries_valid h (e ∷ es) all =
    let rest = entries_valid h es all.1 in
    record {
      in_range = ((all.0.0.0, all.0.1.0), rest.in_range);
      are_forms = ((all.0.0.1, all.0.1.1), rest.are_forms);
      high = omega (arith, all.0.0.2, all.0.1.2, rest.high);
    }

pub entries_split : (h : ℕ) (es : Entries) → EntriesInRange es → EntriesAreForms es → entries_height es ≤ h → AllByRecursion (EntryOk h) (entry_list es)
entries_split h no_entries in_range forms high = tt
entries_split h (entries k v es) in_range forms high =
    (((in_range.0.0, forms.0.0, omega arith), (in_range.0.1, forms.0.1, omega arith)), entries_split h es in_range.1 forms.1 (omega arith))

pub keys_list : (es : List PureEntry) → map key_form (keys (entries_of es)) ≡ map (λ (e : PureEntry). key_form e.key) es
keys_list [] = refl
keys_list (e ∷ es) = ap (λ (ks : List PureValue). key_form e.key ∷ ks) (keys_list es)

-- ---- fields

abbrev pub field_list : Fields → List PureField
field_list no_fields = []
field_list (fields n v fs) = record { name = n; value = v } ∷ field_list fs

abbrev pub field_bytes : PureField → List ℕ
field_bytes f = bytes_field f.name.0 ++ value_bytes f.value

abbrev pub FieldOk : ℕ → PureField → Type 0
FieldOk h f = NameInRange f.name × ValueOk h f.value

pub fields_flat : (fs : List PureField) → flat_map field_bytes fs ≡ fields_bytes (fields_of fs)
fields_flat [] = refl
fields_flat (f ∷ fs) = flat_map-cons field_bytes f fs ∙ ap (λ (w : List ℕ). field_bytes f ++ w) (fields_flat fs)

pub fields_count : (fs : List PureField) → length fs ≡ length (names (fields_of fs))
fields_count [] = refl
fields_count (f ∷ fs) = ap suc (fields_count fs)

pub fields_back : (fs : Fields) → fields_of (field_list fs) ≡ fs
fields_back no_fields = refl
fields_back (fields n v fs) = ap (fields n v) (fields_back fs)

pub record FieldsOk (h : ℕ) (fs : Fields) : Type 0 where
  pub in_range : FieldsInRange fs
  pub are_forms : FieldsAreForms fs
  pub high : fields_height fs ≤ h

pub fields_valid : (h : ℕ) (fs : List PureField) → AllByRecursion (FieldOk h) fs → FieldsOk h (fields_of fs)
fields_valid h [] all = record { in_range = tt; are_forms = tt; high = omega arith }
fields_valid h (f ∷ fs) all =
    let rest = fields_valid h fs all.1 in
    record { in_range = ((all.0.0, all.0.1.0), rest.in_range); are_forms = (all.0.1.1, rest.are_forms); high = omega (arith, all.0.1.2, rest.high) }

pub fields_split : (h : ℕ) (fs : Fields) → FieldsInRange fs → FieldsAreForms fs → fields_height fs ≤ h → AllByRecursion (FieldOk h) (field_list fs)
fields_split h no_fields in_range forms high = tt
fields_split h (fields n v fs) in_range forms high = ((in_range.0.0, (in_range.0.1, forms.0, omega arith)), fields_split h fs in_range.1 forms.1 (omega arith))

pub names_list : (fs : List PureField) → names (fields_of fs) ≡ map (λ (f : PureField). f.name) fs
names_list [] = refl
names_list (f ∷ fs) = ap (λ (ns : List Name). f.name ∷ ns) (names_list fs)
