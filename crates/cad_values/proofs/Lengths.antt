-- Lists of parts of other lengths are other lists.
use Rattle.std.proofs.Common.{◌≡◌, ℕ, suc, List, [], ◌∷◌, length, map, refl, sym, ap, ◌∙◌}
use Rattle.std.proofs.lemmas.List.{length-map}
use Rattle.cad_values.specs.Values.{PureValue, Values, no_values, values, values_of, pure_value, Entries, no_entries, entries, entries_of, pure_entry, PureEntry, Fields, no_fields, fields, fields_of, pure_field, PureField}
use Rattle.cad_values.specs.declared.value.Value.{Value}
use Rattle.cad_values.specs.declared.value.DictionaryEntry.{DictionaryEntry}
use Rattle.cad_values.specs.declared.value.CompositeField.{CompositeField}

values_count : Values → ℕ
values_count no_values = 0
values_count (values v vs) = suc (values_count vs)

entries_count : Entries → ℕ
entries_count no_entries = 0
entries_count (entries k v es) = suc (entries_count es)

fields_count : Fields → ℕ
fields_count no_fields = 0
fields_count (fields n v fs) = suc (fields_count fs)

values_counted : (vs : List PureValue) → values_count (values_of vs) ≡ length vs
unfolding values_count
values_counted [] = refl
values_counted (v ∷ vs) = ap suc (values_counted vs)

entries_counted : (es : List PureEntry) → entries_count (entries_of es) ≡ length es
unfolding entries_count
entries_counted [] = refl
entries_counted (e ∷ es) = ap suc (entries_counted es)

fields_counted : (fs : List PureField) → fields_count (fields_of fs) ≡ length fs
unfolding fields_count
fields_counted [] = refl
fields_counted (f ∷ fs) = ap suc (fields_counted fs)

pub differ_values : (a b : List Value) → (length a ≡ length b → ⊥) → values_of (map pure_value a) ≡ values_of (map pure_value b) → ⊥
differ_values a b other e = other (sym (length-map a pure_value) ∙ sym (values_counted (map pure_value a)) ∙ ap values_count e ∙ values_counted (map pure_value b) ∙ length-map b pure_value)

pub differ_entries : (a b : List DictionaryEntry) → (length a ≡ length b → ⊥) → entries_of (map pure_entry a) ≡ entries_of (map pure_entry b) → ⊥
differ_entries a b other e = other (sym (length-map a pure_entry) ∙ sym (entries_counted (map pure_entry a)) ∙ ap entries_count e ∙ entries_counted (map pure_entry b) ∙ length-map b pure_entry)

pub differ_fields : (a b : List CompositeField) → (length a ≡ length b → ⊥) → fields_of (map pure_field a) ≡ fields_of (map pure_field b) → ⊥
differ_fields a b other e = other (sym (length-map a pure_field) ∙ sym (fields_counted (map pure_field a)) ∙ ap fields_count e ∙ fields_counted (map pure_field b) ∙ length-map b pure_field)
