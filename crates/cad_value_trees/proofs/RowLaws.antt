-- Rows of the trees of values, which are made one by one.
use Rattle.std.proofs.Common.{◌≡◌, ℕ, zero, suc, ◌<◌, ◌≤◌, List, [], ◌∷◌, map, length, get_or, drop, refl, sym, ap, ◌∙◌, arith}
use Rattle.cad_values.specs.Values.{pure_value, pure_entry, pure_field, values_of, entries_of, fields_of}
use Rattle.cad_values.specs.declared.value.Value.{Value}
use Rattle.cad_values.specs.declared.value.CompositeField.{CompositeField}
use Rattle.cad_values.specs.declared.value.DictionaryEntry.{DictionaryEntry}
use Rattle.cad_world.specs.Rows as r
use Rattle.cad_world.specs.Trees.{tree_of, row_of, entries_row, fields_row}
use Rattle.cad_rows.proofs.CopyLaws.{join_stop, join_join}

last_is_join : (t : r.Tree) (a : r.Row) → r.add_last t a ≡ r.join a (r.first t r.stop)
last_is_join t r.stop = refl
last_is_join t (r.gap a) = ap r.gap (last_is_join t a)
last_is_join t (r.node l n s k a) = ap (r.node l n s k) (last_is_join t a)

-- one node more
one_more : (t : r.Tree) (now new rest all : r.Row) → new ≡ r.add_last t now → r.join now (r.first t rest) ≡ all → r.join new rest ≡ all
one_more t now new rest all grown so_far =
    ap (λ x. r.join x rest) (grown ∙ last_is_join t now) ∙ join_join now (r.first t r.stop) rest ∙ so_far

pub none_left : {A : Type 0} (xs : List A) (i : ℕ) → length xs ≤ i → drop i xs ≡ []
none_left [] zero outside = refl
none_left [] (suc i) outside = refl
none_left (x ∷ xs) zero outside = absurd (omega (arith, outside))
none_left (x ∷ xs) (suc i) outside = none_left xs i (omega (arith, outside))

-- ---- elements

abbrev pub values_row : List Value → r.Row
values_row vs = row_of (values_of (map pure_value vs))

values_from : (vs : List Value) (i : ℕ) (v : Value) → i < length vs → v ≡ get_or vs i v → values_row (drop i vs) ≡ r.first (tree_of (pure_value v)) (values_row (drop (suc i) vs))
values_from [] i v inside is = absurd (omega (arith, inside))
values_from (w ∷ vs) zero v inside is = ap (λ x. r.first (tree_of (pure_value x)) (values_row vs)) (sym is)
values_from (w ∷ vs) (suc i) v inside is = values_from vs i v (omega (arith, inside)) is

pub values_turn : (vs : List Value) (i : ℕ) (v : Value) (t : r.Tree) (now new all : r.Row) → i < length vs → v ≡ get_or vs i v → r.join now (values_row (drop i vs)) ≡ all → t ≡ tree_of (pure_value v) → new ≡ r.add_last t now → r.join new (values_row (drop (suc i) vs)) ≡ all
values_turn vs i v t now new all inside is so_far made grown =
    one_more (tree_of (pure_value v)) now new (values_row (drop (suc i) vs)) all (grown ∙ ap (λ x. r.add_last x now) made)
    (ap (r.join now) (sym (values_from vs i v inside is)) ∙ so_far)

pub values_end : (vs : List Value) (i : ℕ) (now all : r.Row) → length vs ≤ i → r.join now (values_row (drop i vs)) ≡ all → now ≡ all
values_end vs i now all outside so_far = sym (join_stop now) ∙ ap (λ xs. r.join now (values_row xs)) (sym (none_left vs i outside)) ∙ so_far

-- ---- what stands under keys

abbrev pub under_keys : List DictionaryEntry → r.Row
under_keys es = entries_row (entries_of (map pure_entry es))

entries_from : (es : List DictionaryEntry) (i : ℕ) (e : DictionaryEntry) → i < length es → e ≡ get_or es i e → under_keys (drop i es) ≡ r.first (tree_of (pure_entry e).value) (under_keys (drop (suc i) es))
entries_from [] i e inside is = absurd (omega (arith, inside))
entries_from (d ∷ es) zero e inside is = ap (λ x. r.first (tree_of (pure_entry x).value) (under_keys es)) (sym is)
entries_from (d ∷ es) (suc i) e inside is = entries_from es i e (omega (arith, inside)) is

pub entries_turn : (es : List DictionaryEntry) (i : ℕ) (e : DictionaryEntry) (t : r.Tree) (now new all : r.Row) → i < length es → e ≡ get_or es i e → r.join now (under_keys (drop i es)) ≡ all → t ≡ tree_of (pure_entry e).value → new ≡ r.add_last t now → r.join new (under_keys (drop (suc i) es)) ≡ all
entries_turn es i e t now new all inside is so_far made grown =
    one_more (tree_of (pure_entry e).value) now new (under_keys (drop (suc i) es)) all (grown ∙ ap (λ x. r.add_last x now) made)
    (ap (r.join now) (sym (entries_from es i e inside is)) ∙ so_far)

pub entries_end : (es : List DictionaryEntry) (i : ℕ) (now all : r.Row) → length es ≤ i → r.join now (under_keys (drop i es)) ≡ all → now ≡ all
entries_end es i now all outside so_far = sym (join_stop now) ∙ ap (λ xs. r.join now (under_keys xs)) (sym (none_left es i outside)) ∙ so_far

-- ---- fields

abbrev pub of_fields : List CompositeField → r.Row
of_fields fs = fields_row (fields_of (map pure_field fs))

fields_from : (fs : List CompositeField) (i : ℕ) (f : CompositeField) → i < length fs → f ≡ get_or fs i f → of_fields (drop i fs) ≡ r.first (tree_of (pure_field f).value) (of_fields (drop (suc i) fs))
fields_from [] i f inside is = absurd (omega (arith, inside))
fields_from (g ∷ fs) zero f inside is = ap (λ x. r.first (tree_of (pure_field x).value) (of_fields fs)) (sym is)
fields_from (g ∷ fs) (suc i) f inside is = fields_from fs i f (omega (arith, inside)) is

pub fields_turn : (fs : List CompositeField) (i : ℕ) (f : CompositeField) (t : r.Tree) (now new all : r.Row) → i < length fs → f ≡ get_or fs i f → r.join now (of_fields (drop i fs)) ≡ all → t ≡ tree_of (pure_field f).value → new ≡ r.add_last t now → r.join new (of_fields (drop (suc i) fs)) ≡ all
fields_turn fs i f t now new all inside is so_far made grown =
    one_more (tree_of (pure_field f).value) now new (of_fields (drop (suc i) fs)) all (grown ∙ ap (λ x. r.add_last x now) made)
    (ap (r.join now) (sym (fields_from fs i f inside is)) ∙ so_far)

pub fields_end : (fs : List CompositeField) (i : ℕ) (now all : r.Row) → length fs ≤ i → r.join now (of_fields (drop i fs)) ≡ all → now ≡ all
fields_end fs i now all outside so_far = sym (join_stop now) ∙ ap (λ xs. r.join now (of_fields xs)) (sym (none_left fs i outside)) ∙ so_far
