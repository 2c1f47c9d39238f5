-- Keys differ where their bytes do, and names too.
use Rattle.std.proofs.Common.{◌≡◌, ℕ, ◌≤◌, Bool, true, cond, eqb, List, [], ◌∷◌, ◌++◌, map, Option, Some, None, refl, sym, ap, subst, ◌∙◌}
use Rattle.std.proofs.lemmas.List.{append-nil}
use Rattle.std.specs.List.{AllByRecursion}
use Rattle.cad_syntax.specs.declared.text.Name.{Name}
use Rattle.cad_values.specs.Keys.{key_form, Distinct, KeysDiffer}
use Rattle.cad_values.specs.Values as v
use Rattle.cad_values.specs.Values.{PureValue, PureEntry, PureField, entries_of, keys, fields_of, names}
use Rattle.cad_wire.specs.Fields.{◌>>=◌}
use Rattle.cad_wire.proofs.FieldLaws.{some_is}
use Rattle.cad_codec.specs.ValueBytes.{value_bytes}
use Rattle.cad_codec.specs.Code.Fields.{name_of}
use Rattle.cad_codec.specs.Code.Values.{key_bytes, keys_differ, names_differ, value_at}
use Rattle.cad_codec.proofs.Distincts.{all_differ, differ_all, distinct_by}
use Rattle.cad_codec.proofs.Formats.{IsFormat}
use Rattle.cad_codec.proofs.Lists.{ValueOk, EntryOk, FieldOk, keys_list, names_list}

-- the bytes of a key from its form
abbrev form_bytes : PureValue → List ℕ
form_bytes (v.string text) = 5 ∷ text
form_bytes (v.character text) = 6 ∷ text
form_bytes x = value_bytes x

key_by_form : (x : PureValue) → key_bytes x ≡ form_bytes (key_form x)
key_by_form (v.string text) = refl
key_by_form (v.character text) = refl
key_by_form x = refl

-- and its form from the bytes
abbrev untag : ℕ → List ℕ → Option PureValue
untag h [] = None
untag h (b ∷ bytes) = cond (eqb b 5) (Some (v.string bytes)) (cond (eqb b 6) (Some (v.character bytes)) (value_at h (b ∷ bytes) >>= λ x. Some x.0))

whole_again : (h : ℕ) → IsFormat value_bytes (ValueOk h) (value_at h) → (x : PureValue) → ValueOk h x → (value_at h (value_bytes x) >>= λ y. Some y.0) ≡ Some x
whole_again h inner x ok = ap (λ o. o >>= λ y. Some y.0) (ap (value_at h) (sym (append-nil (value_bytes x))) ∙ inner.again x [] ok)

told : (h : ℕ) → IsFormat value_bytes (ValueOk h) (value_at h) → (x : PureValue) → ValueOk h x → untag h (key_bytes x) ≡ Some (key_form x)
told h inner (v.string text) ok = refl
told h inner (v.character text) ok = refl
told h inner (v.reference a t to) ok = absurd ok.1
told h inner x ok = whole_again h inner x ok

same_form : (h : ℕ) → IsFormat value_bytes (ValueOk h) (value_at h) → (x y : PureValue) → ValueOk h x → ValueOk h y → key_bytes x ≡ key_bytes y → key_form x ≡ key_form y
same_form h inner x y a b e = some_is (key_form x) (key_form y) (sym (told h inner x a) ∙ ap (untag h) e ∙ told h inner y b)

same_bytes : (x y : PureValue) → key_form x ≡ key_form y → key_bytes x ≡ key_bytes y
same_bytes x y e = key_by_form x ∙ ap form_bytes e ∙ sym (key_by_form y)

pub keys_apart : (h : ℕ) (es : List PureEntry) → AllByRecursion (EntryOk h) es → keys_differ es ≡ true → KeysDiffer (keys (entries_of es))
keys_apart h es all e =
    subst Distinct (sym (keys_list es))
    (distinct_by (λ (x : PureEntry). key_bytes x.key) (λ (x : PureEntry). key_form x.key) (EntryOk h) (λ a b p q same. same_bytes a.key b.key same) es all (all_differ (map (λ (x : PureEntry). key_bytes x.key) es) e))

pub apart_keys : (h : ℕ) → IsFormat value_bytes (ValueOk h) (value_at h) → (es : List PureEntry) → AllByRecursion (EntryOk h) es → KeysDiffer (keys (entries_of es)) → keys_differ es ≡ true
apart_keys h inner es all apart =
    differ_all (map (λ (x : PureEntry). key_bytes x.key) es)
    (distinct_by (λ (x : PureEntry). key_form x.key) (λ (x : PureEntry). key_bytes x.key) (EntryOk h) (λ a b p q same. same_form h inner a.key b.key p.0 q.0 same) es all (subst Distinct (keys_list es) apart))

pub names_apart : (h : ℕ) (fs : List PureField) → AllByRecursion (FieldOk h) fs → names_differ fs ≡ true → Distinct (names (fields_of fs))
names_apart h fs all e =
    subst Distinct (sym (names_list fs))
    (distinct_by (λ (x : PureField). x.name.0) (λ (x : PureField). x.name) (FieldOk h) (λ a b p q same. ap (λ (n : Name). n.0) same) fs all (all_differ (map (λ (x : PureField). x.name.0) fs) e))

pub apart_names : (h : ℕ) (fs : List PureField) → AllByRecursion (FieldOk h) fs → Distinct (names (fields_of fs)) → names_differ fs ≡ true
apart_names h fs all apart =
    differ_all (map (λ (x : PureField). x.name.0) fs)
    (distinct_by (λ (x : PureField). x.name) (λ (x : PureField). x.name.0) (FieldOk h) (λ a b p q same. ap name_of same) fs all (subst Distinct (names_list fs) apart))
