-- How many parts a value has.
use Rattle.std.proofs.Common.{◌≡◌, ℕ, suc, List, [], ◌∷◌, ◌++◌, length, map, refl, sym, ap, ◌∙◌, append_assoc}
use Rattle.cad_wire.specs.Fields.{length_field}
use Rattle.cad_codec.specs.TypeBytes.{counted}
use Rattle.cad_values.specs.Values.{elements, keys, names, values_of, entries_of, fields_of, pure_value, pure_entry, pure_field}
use Rattle.cad_values.specs.declared.value.Value.{Value}
use Rattle.cad_values.specs.declared.value.DictionaryEntry.{DictionaryEntry}
use Rattle.cad_values.specs.declared.value.CompositeField.{CompositeField}

pub count_values : (vs : List Value) → length (elements (values_of (map pure_value vs))) ≡ length vs
count_values [] = refl
count_values (v ∷ vs) = ap suc (count_values vs)

pub count_entries : (es : List DictionaryEntry) → length (keys (entries_of (map pure_entry es))) ≡ length es
count_entries [] = refl
count_entries (e ∷ es) = ap suc (count_entries es)

pub count_fields : (fs : List CompositeField) → length (names (fields_of (map pure_field fs))) ≡ length fs
count_fields [] = refl
count_fields (f ∷ fs) = ap suc (count_fields fs)

-- a list whose length was written
pub begun : (before written members : List ℕ) (n m : ℕ) → written ≡ before ++ length_field n → m ≡ n → written ++ members ≡ before ++ counted m members
unfolding counted
begun before written members n m e same =
    ap (λ (w : List ℕ). w ++ members) e ∙ append_assoc before (length_field n) members ∙ ap (λ (k : ℕ). before ++ (length_field k ++ members)) (sym same)
