-- A value is read by its form, and the members of a list by what they are seen as.
use Rattle.std.proofs.Common.{◌≡◌, ℕ, zero, suc, ◌<◌, List, length, map, Option, Some, refl, sym, ap, ◌∙◌, get_or}
use Rattle.std.specs.Prelude.{slice_get, option_map}
use Rattle.std.proofs.lemmas.Option.{slice_get-map, slice_get_read}
use Rattle.cad_syntax.specs.declared.text.Name.{Name}
use Rattle.cad_values.specs.Values.{pure_value, pure_entry, pure_field, PureEntry, PureField}
use Rattle.cad_values.specs.declared.value.DictionaryEntry.{DictionaryEntry}
use Rattle.cad_values.specs.declared.value.CompositeField.{CompositeField}
use Rattle.cad_wire.specs.Fields.{◌>>=◌, byte_at}
use Rattle.cad_codec.specs.Code.Fields.{found_at}
use Rattle.cad_codec.specs.Code.Values.{value_forms, value_after, value_at, key_bytes}
use Rattle.cad_codec.specs.declared.form.ValueForm.{ValueForm}

pub value_step : (left inner : ℕ) (old rest : List ℕ) (read form : ValueForm) → left ≡ suc inner → found_at byte_at (slice_get value_forms) old ≡ Some (read, rest) → read ≡ form → value_at left old ≡ value_after (value_at inner) form rest
unfolding value_at
value_step left inner old rest read form is e same = rw (is, e, same) refl

seen_at : {X Y Z : Type 0} (f : Y → Z) (g : X → Y) (xs : List X) (i : ℕ) (x : X) (z : Z) → i < length xs → x ≡ get_or xs i x → z ≡ f (g x) → slice_get (map f (map g xs)) i ≡ Some z
seen_at {X} {Y} {Z} f g xs i x z lt is same =
    slice_get-map f (map g xs) i ∙ ap (option_map f) (slice_get-map g xs i ∙ ap (option_map g) (slice_get_read xs (length xs) i x refl lt is)) ∙ ap (λ (w : Z). Some w) (sym same)

pub key_at : (es : List DictionaryEntry) (i : ℕ) (e : DictionaryEntry) (key : List ℕ) → i < length es → e ≡ get_or es i e → key ≡ key_bytes (pure_entry e).key → slice_get (map (λ (x : PureEntry). key_bytes x.key) (map pure_entry es)) i ≡ Some key
key_at es i e key lt is same = seen_at (λ (x : PureEntry). key_bytes x.key) pure_entry es i e key lt is same

pub name_at_place : (fs : List CompositeField) (i : ℕ) (f : CompositeField) (name : List ℕ) → i < length fs → f ≡ get_or fs i f → name ≡ (pure_field f).name.0 → slice_get (map (λ (x : PureField). x.name.0) (map pure_field fs)) i ≡ Some name
name_at_place fs i f name lt is same = seen_at (λ (x : PureField). x.name.0) pure_field fs i f name lt is same
