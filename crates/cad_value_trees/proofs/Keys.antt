-- The keys of entries and the names of fields, as lists.
use Rattle.std.proofs.Common.{◌≡◌, ℕ, ◌≤◌, List, [], ◌∷◌, ◌++◌, map, length, drop, refl, sym, ap, ◌∙◌, append-nil}
use Rattle.cad_syntax.specs.declared.text.Name.{Name}
use Rattle.cad_values.specs.Values.{PureValue, pure_entry, pure_field, entries_of, fields_of, keys, names}
use Rattle.cad_values.specs.declared.value.CompositeField.{CompositeField}
use Rattle.cad_values.specs.declared.value.DictionaryEntry.{DictionaryEntry}
use Rattle.cad_value_trees.proofs.RowLaws.{none_left}

abbrev pub key_of : DictionaryEntry → PureValue
key_of e = (pure_entry e).key

abbrev pub name_of : CompositeField → Name
name_of f = (pure_field f).name

keys_are : (es : List DictionaryEntry) → keys (entries_of (map pure_entry es)) ≡ map key_of es
keys_are [] = refl
keys_are (e ∷ es) = ap (λ ks. key_of e ∷ ks) (keys_are es)

names_are : (fs : List CompositeField) → names (fields_of (map pure_field fs)) ≡ map name_of fs
names_are [] = refl
names_are (f ∷ fs) = ap (λ ns. name_of f ∷ ns) (names_are fs)

pub keys_end : (es : List DictionaryEntry) (i : ℕ) (now : List PureValue) → length es ≤ i → now ++ map key_of (drop i es) ≡ map key_of es → now ≡ keys (entries_of (map pure_entry es))
keys_end es i now outside so_far = sym (append-nil now) ∙ ap (λ xs. now ++ map key_of xs) (sym (none_left es i outside)) ∙ so_far ∙ sym (keys_are es)

pub names_end : (fs : List CompositeField) (i : ℕ) (now : List Name) → length fs ≤ i → now ++ map name_of (drop i fs) ≡ map name_of fs → now ≡ names (fields_of (map pure_field fs))
names_end fs i now outside so_far = sym (append-nil now) ∙ ap (λ xs. now ++ map name_of xs) (sym (none_left fs i outside)) ∙ so_far ∙ sym (names_are fs)
