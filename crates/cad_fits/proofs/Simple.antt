-- Keys that are told apart by their bytes.
use Rattle.std.proofs.Common.{◌≡◌, ◌≤◌, ◌<◌, ℕ, Bool, true, List, [], ◌∷◌, length, map, Some, get_or, refl, sym, ap, ◌∙◌, subst, arith}
use Rattle.std.specs.Prelude.{slice_get, option_map, IsTrue, ◌↔◌, ◌==◌, nat_le}
use Rattle.std.specs.List.{All, AllByRecursion}
use Rattle.std.specs.Str.{is_utf8}
use Rattle.std.proofs.lemmas.Bool.{and_parts, eqb-true}
use Rattle.std.proofs.lemmas.List.Elements.{recursion_from_All}
use Rattle.std.proofs.lemmas.Option.{slice_get-map, slice_get_read}
use Rattle.std.proofs.lemmas.Str.{IsUtf8-from_is_utf8}
use Rattle.cad_codec.specs.Code.Values as codec
use Rattle.cad_codec.specs.Forms.{HasBytes}
use Rattle.cad_codec.specs.Ranges.{TextInRange}
use Rattle.cad_codec.specs.ValueBytes.{value_bytes}
use Rattle.cad_codec.proofs.Keys.{keys_apart, apart_keys}
use Rattle.cad_codec.proofs.Lists.{ValueOk, EntryOk}
use Rattle.cad_codec.proofs.ValueFormats.{whole_values}
use Rattle.cad_text.specs.Texts.{characters, most_bytes}
use Rattle.cad_values.specs.Forms.{has_no_reference}
use Rattle.cad_values.specs.Keys.{KeysDiffer}
use Rattle.cad_values.specs.Values as v
use Rattle.cad_values.specs.Values.{PureValue, PureEntry, pure_entry, entries_of, keys}
use Rattle.cad_values.specs.declared.value.DictionaryEntry.{DictionaryEntry}
use Rattle.cad_fits.specs.Tests.{is_text, is_one_character}
use Rattle.cad_fits.specs.Table.{is_simple, IsTold, HasToldKey, plain_bytes, key_bytes, bytes_differ}
use Rattle.cad_fits.proofs.Laws.{number_so, low_so}

seen_at : {X Y Z : Type 0} (f : Y → Z) (g : X → Y) (xs : List X) (i : ℕ) (x : X) (z : Z) → i < length xs → x ≡ get_or xs i x → z ≡ f (g x) → slice_get (map f (map g xs)) i ≡ Some z
seen_at {X} {Y} {Z} f g xs i x z lt is same =
    slice_get-map f (map g xs) i ∙ ap (option_map f) (slice_get-map g xs i ∙ ap (option_map g) (slice_get_read xs (length xs) i x refl lt is)) ∙ ap (λ (w : Z). Some w) (sym same)

pub key_at : (es : List DictionaryEntry) (i : ℕ) (e : DictionaryEntry) (key : List ℕ) → i < length es → e ≡ get_or es i e → key ≡ key_bytes (pure_entry e).key → slice_get (map (λ (x : PureEntry). key_bytes x.key) (map pure_entry es)) i ≡ Some key
key_at es i e key lt is same = seen_at (λ (x : PureEntry). key_bytes x.key) pure_entry es i e key lt is same

text_so : (text : List ℕ) → is_text text ≡ true → TextInRange text
text_so text e =
    let p = and_parts (is_utf8 text) (nat_le (length text) most_bytes) e in
    let low : length text ≤ most_bytes = low_so (length text) most_bytes p.1 in
    (IsUtf8-from_is_utf8 text p.0, omega (arith, low))

-- a simple key has bytes
pub simple_told : (x : PureValue) → is_simple x ≡ true → IsTold x
simple_told (v.string text) e = ((text_so text e, (tt, omega arith)), refl)
simple_told (v.character text) e =
    let p = and_parts (is_text text) (is_one_character text) e in
    let q = and_parts (is_utf8 text) (length (characters text) == 1) p.1 in
    ((text_so text p.0, (eqb-true (length (characters text)) 1 q.1, omega arith)), refl)
simple_told (v.number n) e = ((tt, (number_so n.kind e, omega arith)), refl)
simple_told (v.bool b) e = ((tt, (tt, omega arith)), refl)
simple_told (v.path p) e = ((text_so p.identifier.0 e, (tt, omega arith)), refl)
simple_told _ e = absurd cc

-- what is read from the bytes of a key is the key
pub read_told : (x y : PureValue) (b : Bool) → has_no_reference x ≡ true → HasBytes y → (IsTrue b ↔ (y ≡ x)) → IsTrue b → IsTold x
read_told x y b none has tells right = (subst HasBytes (tells.0 right) has, none)

plain_so : (x : PureValue) → has_no_reference x ≡ true → plain_bytes x ≡ value_bytes x
unfolding plain_bytes
plain_so x none = rw none refl

-- such a key has the same bytes as those that are read back
told_bytes : (x : PureValue) → IsTold x → key_bytes x ≡ codec.key_bytes x
told_bytes (v.string text) is = refl
told_bytes (v.character text) is = refl
told_bytes x is = plain_so x is.1

told_ok : (x : PureValue) → IsTold x → ValueOk 256 x
told_ok x is = (is.0.0, is.0.1.0, is.0.1.1)

-- entries without what stands under the keys
bare : PureEntry → PureEntry
bare e = record { key = e.key; value = v.void }

bare_keys : (es : List PureEntry) → keys (entries_of (map bare es)) ≡ keys (entries_of es)
unfolding bare
bare_keys [] = refl
bare_keys (e ∷ es) = ap (λ (ks : List PureValue). e.key ∷ ks) (bare_keys es)

bare_ok : (es : List DictionaryEntry) → AllByRecursion HasToldKey es → AllByRecursion (EntryOk 256) (map bare (map pure_entry es))
unfolding bare
bare_ok [] all = tt
bare_ok (x ∷ es) all = ((told_ok (pure_entry x).key all.0, (tt, tt, omega arith)), bare_ok es all.1)

bare_bytes : (es : List DictionaryEntry) → AllByRecursion HasToldKey es → map (λ (x : PureEntry). key_bytes x.key) (map pure_entry es) ≡ map (λ (x : PureEntry). codec.key_bytes x.key) (map bare (map pure_entry es))
unfolding bare
bare_bytes [] all = refl
bare_bytes (x ∷ es) all = λ i. told_bytes (pure_entry x).key all.0 i ∷ bare_bytes es all.1 i

bare_differ : (es : List DictionaryEntry) → AllByRecursion HasToldKey es → bytes_differ (map pure_entry es) ≡ codec.keys_differ (map bare (map pure_entry es))
bare_differ es all = ap (codec.all_new []) (bare_bytes es all)

pub table_tells : (es : List DictionaryEntry) (b : Bool) → All HasToldKey es → b ≡ bytes_differ (map pure_entry es) → (IsTrue b ↔ KeysDiffer (keys (entries_of (map pure_entry es))))
table_tells es b told is =
    let all = recursion_from_All HasToldKey es told in (
      λ h. subst KeysDiffer (bare_keys (map pure_entry es)) (keys_apart 256 (map bare (map pure_entry es)) (bare_ok es all) (sym (bare_differ es all) ∙ (sym is ∙ h))),
      λ apart. is ∙ (bare_differ es all ∙ apart_keys 256 (whole_values 256) (map bare (map pure_entry es)) (bare_ok es all) (subst KeysDiffer (sym (bare_keys (map pure_entry es))) apart)),
    )
