use Rattle.std.proofs.Common.{◌≡◌, ap, ◌∙◌, ◌++◌, ◌∷◌, [], List, ℕ, refl, sym, map, drop, true, false, Bool, rules, Option, Some, None}
use Rattle.std.specs.Prelude.{codes}
use Rattle.std.proofs.lemmas.Result.{on_ok_weaker}
use Rattle.cad_syntax.specs.Types.{pure_type}
use Rattle.cad_types.specs.Declarations.{declaration_of, found}
use Rattle.cad_types.specs.Views.{declarations}
use Rattle.cad_values.specs.Values as v
use Rattle.cad_values.specs.declared.value.Value.TheViews.{the_lemmas as value_lemmas}
use Rattle.cad_values.specs.declared.value.Value.TheFolds.{fold_out-Value, fold_out-DictionaryEntry, fold_out-CompositeField}
use Rattle.cad_values.specs.Values.{pure_value, pure_field, pure_entry, values_of, entries_of, fields_of}
use Rattle.cad_json_export.specs.Texts.{head, close, quotation, value_text, values_text, entries_text, fields_text, before_fields, behind_fields, is_resource}
use Rattle.cad_json_export.proofs.Laws.{some_text, array_text, dictionary_text, composite_text, no_composite_text}
use Rattle.cad_json_export.proofs.Pushes.{two, three}
use Rattle.cad_json_export.proofs.Turns.{values_turn, values_end, entries_turn, entries_end, fields_turn, fields_end, entry_pushed, field_pushed}
use Rattle.cad_json_export.proofs.writing.+writes.Goals as goal

pub push_values-loop-value-preserved : goal.push_values-loop-value-preserved
push_values-loop-value-preserved t c = values_turn (declarations c.args.kinds.now) c.loop-value.later c.args.values.now c.loop-value.value-index c.value-item.result c.loop-value.text c.push_comma.new.text c.push_value.new.text (c.args.text.now ++ 91 ∷ values_text (declarations c.args.kinds.now) false (values_of (map pure_value c.args.values.now))) c.loop-value-test.true c.value-item.is c.loop-value.invariant c.in_ok-push_comma.ensures c.in_ok-push_value.ensures

pub push_values-returns : goal.push_values-returns
push_values-returns t c = on_ok_weaker c.push_str-2.result (λ e. values_end (declarations c.args.kinds.now) c.loop-value.later c.args.values.now c.loop-value.value-index c.loop-value.text c.push_str-2.new.self (c.args.text.now ++ 91 ∷ values_text (declarations c.args.kinds.now) false (values_of (map pure_value c.args.values.now))) c.loop-value-test.false c.loop-value.invariant e) c.push_str-2.ensures.ok

pub push_entries-loop-entry-preserved : goal.push_entries-loop-entry-preserved
push_entries-loop-entry-preserved t c = entries_turn (declarations c.args.kinds.now) c.loop-entry.later c.args.entries.now c.loop-entry.entry-index c.entry-item.result c.loop-entry.text c.push_comma.new.text c.push_entry.new.text (c.args.text.now ++ 91 ∷ entries_text (declarations c.args.kinds.now) false (entries_of (map pure_entry c.args.entries.now))) c.loop-entry-test.true c.entry-item.is c.loop-entry.invariant c.in_ok-push_comma.ensures c.in_ok-push_entry.ensures

pub push_entries-returns : goal.push_entries-returns
push_entries-returns t c = on_ok_weaker c.push_str-2.result (λ e. entries_end (declarations c.args.kinds.now) c.loop-entry.later c.args.entries.now c.loop-entry.entry-index c.loop-entry.text c.push_str-2.new.self (c.args.text.now ++ 91 ∷ entries_text (declarations c.args.kinds.now) false (entries_of (map pure_entry c.args.entries.now))) c.loop-entry-test.false c.loop-entry.invariant e) c.push_str-2.ensures.ok

pub push_fields-loop-field-preserved : goal.push_fields-loop-field-preserved
push_fields-loop-field-preserved t c = fields_turn (declarations c.args.kinds.now) c.loop-field.later c.args.fields.now c.loop-field.field-index c.field-item.result c.loop-field.text c.push_comma.new.text c.push_field.new.text (c.args.text.now ++ fields_text (declarations c.args.kinds.now) c.args.begun (fields_of (map pure_field c.args.fields.now))) c.loop-field-test.true c.field-item.is c.loop-field.invariant c.in_ok-push_comma.ensures c.in_ok-push_field.ensures

pub push_fields-returns : goal.push_fields-returns
push_fields-returns t c = on_ok_weaker c.push_str.result (λ e. fields_end (declarations c.args.kinds.now) c.loop-field.later c.args.fields.now c.loop-field.field-index c.loop-field.text c.push_str.new.self (c.args.text.now ++ fields_text (declarations c.args.kinds.now) c.args.begun (fields_of (map pure_field c.args.fields.now))) c.loop-field-test.false c.loop-field.invariant e) c.push_str.ensures.ok

pub push_value-returns-in_ok-push_value-in-Some : goal.push_value-returns-in_ok-push_value-in-Some
push_value-returns-in_ok-push_value-in-Some t c =
    let declared = declarations c.args.kinds.now in
    let content = pure_value c.deref.result.now in
    let same : pure_value c.args.value.now ≡ v.some content = search (rules, value_lemmas, fold_out-Value, fold_out-DictionaryEntry, fold_out-CompositeField) in
    on_ok_weaker c.push_str.result
    (λ e. three c.args.text.now (head (codes "Optional")) (value_text declared content) close c.in_ok-push_head-in-Some.ensures c.in_ok-push_value-in-Some.ensures e (ap (value_text declared) same ∙ some_text declared content))
    c.push_str.ensures.ok

pub push_value-returns-in_ok-push_values-in-Array : goal.push_value-returns-in_ok-push_values-in-Array
push_value-returns-in_ok-push_values-in-Array t c =
    let declared = declarations c.args.kinds.now in
    let content = values_of (map pure_value c.as_slice.result.now) in
    let same : pure_value c.args.value.now ≡ v.array (pure_type c.in-Array.element) content = search (rules, value_lemmas, fold_out-Value, fold_out-DictionaryEntry, fold_out-CompositeField) in
    on_ok_weaker c.push_str-in-Array.result
    (λ e. three c.args.text.now (head (codes "Array")) (91 ∷ values_text declared false content) close c.in_ok-push_head-in-Array.ensures c.in_ok-push_values-in-Array.ensures e (ap (value_text declared) same ∙ array_text declared (pure_type c.in-Array.element) content))
    c.push_str-in-Array.ensures.ok

pub push_value-returns-in_ok-push_entries-in-Dictionary : goal.push_value-returns-in_ok-push_entries-in-Dictionary
push_value-returns-in_ok-push_entries-in-Dictionary t c =
    let declared = declarations c.args.kinds.now in
    let content = entries_of (map pure_entry c.as_slice-in-Dictionary.result.now) in
    let key = pure_type c.in-Dictionary.key in
    let element = pure_type c.in-Dictionary.value in
    let same : pure_value c.args.value.now ≡ v.dictionary key element content = search (rules, value_lemmas, fold_out-Value, fold_out-DictionaryEntry, fold_out-CompositeField) in
    on_ok_weaker c.push_str-in-Dictionary.result
    (λ e. three c.args.text.now (head (codes "Dictionary")) (91 ∷ entries_text declared false content) close c.in_ok-push_head-in-Dictionary.ensures c.in_ok-push_entries-in-Dictionary.ensures e (ap (value_text declared) same ∙ dictionary_text declared key element content))
    c.push_str-in-Dictionary.ensures.ok

pub push_value-returns-in_ok-push_fields-in-Some-find : goal.push_value-returns-in_ok-push_fields-in-Some-find
push_value-returns-in_ok-push_fields-in-Some-find t c =
    let declared = declarations c.args.kinds.now in
    let content = fields_of (map pure_field c.as_slice-in-Some-find.result.now) in
    let id = c.in-Composite.id in
    let n = c.in-Composite.identity in
    let same : pure_value c.args.value.now ≡ v.composite id n content = search (rules, value_lemmas, fold_out-Value, fold_out-DictionaryEntry, fold_out-CompositeField) in
    let d = declaration_of c.in-Some-find.declared.now in
    let is : found declared id ≡ Some d = sym c.in-Some-find.ensures in
    on_ok_weaker c.push_behind_fields.result
    (λ e. three c.args.text.now (before_fields d.sort n) (fields_text declared (is_resource d.sort) content) (behind_fields id) c.in_ok-later-in-Some-find.ensures.text (c.in_ok-push_fields-in-Some-find.ensures ∙ ap (λ (w : Bool). c.push_before_fields.new.text ++ fields_text declared w content) c.in_ok-later-in-Some-find.ensures.told) e (ap (value_text declared) same ∙ composite_text declared d id n content is))
    c.push_behind_fields.ensures

pub push_value-returns-in-None : goal.push_value-returns-in-None
push_value-returns-in-None t c =
    let declared = declarations c.args.kinds.now in
    let id = c.in-Composite.id in
    let n = c.in-Composite.identity in
    let content = fields_of (map pure_field c.in-Composite.fields.items) in
    let same : pure_value c.args.value.now ≡ v.composite id n content = search (rules, value_lemmas, fold_out-Value, fold_out-DictionaryEntry, fold_out-CompositeField) in
    let is : found declared id ≡ None = sym c.in-None.ensures in
    rw (ap (value_text declared) same ∙ no_composite_text declared id n content is) c.push_str-in-None.ensures.ok

pub push_entry-returns : goal.push_entry-returns
push_entry-returns t c =
    let declared = declarations c.args.kinds.now in
    let key = pure_value c.args.entry.now.key in
    let x = pure_value c.args.entry.now.value in
    let same_key : (pure_entry c.args.entry.now).key ≡ key = search (rules, value_lemmas, fold_out-Value, fold_out-DictionaryEntry, fold_out-CompositeField) in
    let same : (pure_entry c.args.entry.now).value ≡ x = search (rules, value_lemmas, fold_out-Value, fold_out-DictionaryEntry, fold_out-CompositeField) in
    rw (same_key, same) (on_ok_weaker c.push_str-3.result (entry_pushed declared key x c.args.text.now c.push_str.new.self c.push_value.new.text c.push_str-2.new.self c.push_value-2.new.text c.push_str-3.new.self
    c.in_ok-push_str.ensures.ok c.in_ok-push_value.ensures c.in_ok-push_str-2.ensures.ok c.in_ok-push_value-2.ensures) c.push_str-3.ensures.ok)

pub push_field-returns : goal.push_field-returns
push_field-returns t c =
    let declared = declarations c.args.kinds.now in
    let name = c.args.field.now.name in
    let x = pure_value c.args.field.now.value in
    let same_name : (pure_field c.args.field.now).name ≡ name = search (rules, value_lemmas, fold_out-Value, fold_out-DictionaryEntry, fold_out-CompositeField) in
    let same : (pure_field c.args.field.now).value ≡ x = search (rules, value_lemmas, fold_out-Value, fold_out-DictionaryEntry, fold_out-CompositeField) in
    rw (same_name, same) (on_ok_weaker c.push_str-3.result (field_pushed declared name x c.args.text.now c.push_str.new.self c.push_quoted.new.text c.push_str-2.new.self c.push_value.new.text c.push_str-3.new.self
    c.in_ok-push_str.ensures.ok (c.in_ok-push_quoted.ensures ∙ ap (λ (w : List ℕ). c.push_str.new.self ++ quotation w) c.as_str.ensures) c.in_ok-push_str-2.ensures.ok c.in_ok-push_value.ensures) c.push_str-3.ensures.ok)
