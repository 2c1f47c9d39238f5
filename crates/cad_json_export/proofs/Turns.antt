-- A loop over the members of a list, which are written one behind the other.
use Rattle.std.proofs.Common.{◌≡◌, ◌<◌, ◌≤◌, ◌+◌, ℕ, suc, Bool, true, false, List, [], ◌∷◌, ◌++◌, length, drop, map, get_or, refl, sym, ap, ◌∙◌, append_assoc, add-one}
use Rattle.std.proofs.Math.Seq.{drop-cons}
use Rattle.std.proofs.lemmas.List.{drop_all}
use Rattle.std.proofs.lemmas.Result.{on_ok_weaker}
use Rattle.std.specs.Prelude.{Result, OnOk, codes}
use Rattle.serde_json.specs.Written.{comma_if}
use Rattle.cad_types.specs.Declarations.{Declaration}
use Rattle.cad_values.specs.Values.{PureValue, PureEntry, PureField, pure_value, pure_entry, pure_field, values_of, entries_of, fields_of}
use Rattle.cad_values.specs.declared.value.Value.{Value}
use Rattle.cad_values.specs.declared.value.DictionaryEntry.{DictionaryEntry}
use Rattle.cad_values.specs.declared.value.CompositeField.{CompositeField}
use Rattle.cad_syntax.specs.declared.text.Name.{Name}
use Rattle.cad_json_export.specs.Texts.{value_text, values_text, entries_text, fields_text, entry_text, field_text, quotation, close}
use Rattle.cad_json_export.proofs.Laws.{no_values_text, more_values_text, no_entries_text, more_entries_text, no_fields_text, more_fields_text, entry_is, field_is}
use Rattle.cad_json_export.proofs.Pushes.{five}

drop_at : {X : Type 0} (xs : List X) (i : ℕ) (x : X) → i < length xs → x ≡ get_or xs i x → drop i xs ≡ x ∷ drop (i + 1) xs
drop_at xs i x lt is = rw (add-one i) (drop-cons xs i x lt ∙ ap (λ w. w ∷ drop (suc i) xs) (sym is))

regrouped : (t a b v : List ℕ) → ((t ++ a) ++ b) ++ v ≡ t ++ (a ++ (b ++ v))
regrouped t a b v = simp append_assoc refl

pub turn : {X : Type 0} (F : Bool → List X → List ℕ) (one : X → List ℕ) (more : (later : Bool) (x : X) (xs : List X) → F later (x ∷ xs) ≡ comma_if later ++ (one x ++ F true xs))
    → (later : Bool) (xs : List X) (i : ℕ) (x : X) (t t1 t2 whole : List ℕ) → i < length xs → x ≡ get_or xs i x → t ++ F later (drop i xs) ≡ whole → t1 ≡ t ++ comma_if later → t2 ≡ t1 ++ one x
    → t2 ++ F true (drop (i + 1) xs) ≡ whole
turn {X} F one more later xs i x t t1 t2 whole lt is so e1 e2 =
    let rest = F true (drop (i + 1) xs) in
    ap (λ (w : List ℕ). w ++ rest) (e2 ∙ ap (λ (w : List ℕ). w ++ one x) e1)
    ∙ (regrouped t (comma_if later) (one x) rest
    ∙ (ap (λ (w : List ℕ). t ++ w) (sym (more later x (drop (i + 1) xs)))
    ∙ (ap (λ (w : List X). t ++ F later w) (sym (drop_at xs i x lt is)) ∙ so)))

pub stop : {X : Type 0} (F : Bool → List X → List ℕ) (none : (later : Bool) → F later [] ≡ 93 ∷ [])
    → (later : Bool) (xs : List X) (i : ℕ) (t t1 whole : List ℕ) → length xs ≤ i → t ++ F later (drop i xs) ≡ whole → t1 ≡ t ++ 93 ∷ [] → t1 ≡ whole
stop {X} F none later xs i t t1 whole end so e = e ∙ (ap (λ (w : List ℕ). t ++ w) (sym (none later)) ∙ (ap (λ (w : List X). t ++ F later w) (sym (drop_all i xs end)) ∙ so))

-- ---- elements

pub values_turn : (declared : List Declaration) (later : Bool) (xs : List Value) (i : ℕ) (x : Value) (t t1 t2 whole : List ℕ) → i < length xs → x ≡ get_or xs i x
    → t ++ values_text declared later (values_of (map pure_value (drop i xs))) ≡ whole → t1 ≡ t ++ comma_if later → t2 ≡ t1 ++ value_text declared (pure_value x)
    → t2 ++ values_text declared true (values_of (map pure_value (drop (i + 1) xs))) ≡ whole
values_turn declared = turn (λ later xs. values_text declared later (values_of (map pure_value xs))) (λ x. value_text declared (pure_value x)) (λ later x xs. more_values_text declared later (pure_value x) (values_of (map pure_value xs)))

pub values_end : (declared : List Declaration) (later : Bool) (xs : List Value) (i : ℕ) (t t1 whole : List ℕ) → length xs ≤ i
    → t ++ values_text declared later (values_of (map pure_value (drop i xs))) ≡ whole → t1 ≡ t ++ 93 ∷ [] → t1 ≡ whole
values_end declared = stop (λ later xs. values_text declared later (values_of (map pure_value xs))) (no_values_text declared)

-- ---- entries

pub entries_turn : (declared : List Declaration) (later : Bool) (xs : List DictionaryEntry) (i : ℕ) (x : DictionaryEntry) (t t1 t2 whole : List ℕ) → i < length xs → x ≡ get_or xs i x
    → t ++ entries_text declared later (entries_of (map pure_entry (drop i xs))) ≡ whole → t1 ≡ t ++ comma_if later → t2 ≡ t1 ++ entry_text declared (pure_entry x).key (pure_entry x).value
    → t2 ++ entries_text declared true (entries_of (map pure_entry (drop (i + 1) xs))) ≡ whole
entries_turn declared = turn (λ later xs. entries_text declared later (entries_of (map pure_entry xs))) (λ x. entry_text declared (pure_entry x).key (pure_entry x).value) (λ later x xs. more_entries_text declared later (pure_entry x).key (pure_entry x).value (entries_of (map pure_entry xs)))

pub entries_end : (declared : List Declaration) (later : Bool) (xs : List DictionaryEntry) (i : ℕ) (t t1 whole : List ℕ) → length xs ≤ i
    → t ++ entries_text declared later (entries_of (map pure_entry (drop i xs))) ≡ whole → t1 ≡ t ++ 93 ∷ [] → t1 ≡ whole
entries_end declared = stop (λ later xs. entries_text declared later (entries_of (map pure_entry xs))) (no_entries_text declared)

-- ---- fields

pub fields_turn : (declared : List Declaration) (later : Bool) (xs : List CompositeField) (i : ℕ) (x : CompositeField) (t t1 t2 whole : List ℕ) → i < length xs → x ≡ get_or xs i x
    → t ++ fields_text declared later (fields_of (map pure_field (drop i xs))) ≡ whole → t1 ≡ t ++ comma_if later → t2 ≡ t1 ++ field_text declared (pure_field x).name (pure_field x).value
    → t2 ++ fields_text declared true (fields_of (map pure_field (drop (i + 1) xs))) ≡ whole
fields_turn declared = turn (λ later xs. fields_text declared later (fields_of (map pure_field xs))) (λ x. field_text declared (pure_field x).name (pure_field x).value) (λ later x xs. more_fields_text declared later (pure_field x).name (pure_field x).value (fields_of (map pure_field xs)))

pub fields_end : (declared : List Declaration) (later : Bool) (xs : List CompositeField) (i : ℕ) (t t1 whole : List ℕ) → length xs ≤ i
    → t ++ fields_text declared later (fields_of (map pure_field (drop i xs))) ≡ whole → t1 ≡ t ++ 93 ∷ [] → t1 ≡ whole
fields_end declared = stop (λ later xs. fields_text declared later (fields_of (map pure_field xs))) (no_fields_text declared)

-- ---- one entry, one field

pub entry_pushed : (declared : List Declaration) (key x : PureValue) (t t1 t2 t3 t4 t5 : List ℕ) → t1 ≡ t ++ codes "{\"key\":" → t2 ≡ t1 ++ value_text declared key → t3 ≡ t2 ++ codes ",\"value\":" → t4 ≡ t3 ++ value_text declared x → t5 ≡ t4 ++ close
    → t5 ≡ t ++ entry_text declared key x
entry_pushed declared key x t t1 t2 t3 t4 t5 e1 e2 e3 e4 e5 = five t (codes "{\"key\":") (value_text declared key) (codes ",\"value\":") (value_text declared x) close e1 e2 e3 e4 e5 (entry_is declared key x)

pub field_pushed : (declared : List Declaration) (n : Name) (x : PureValue) (t t1 t2 t3 t4 t5 : List ℕ) → t1 ≡ t ++ codes "{\"name\":" → t2 ≡ t1 ++ quotation n.0 → t3 ≡ t2 ++ codes ",\"value\":" → t4 ≡ t3 ++ value_text declared x → t5 ≡ t4 ++ close
    → t5 ≡ t ++ field_text declared n x
field_pushed declared n x t t1 t2 t3 t4 t5 e1 e2 e3 e4 e5 = five t (codes "{\"name\":") (quotation n.0) (codes ",\"value\":") (value_text declared x) close e1 e2 e3 e4 e5 (field_is declared n x)
