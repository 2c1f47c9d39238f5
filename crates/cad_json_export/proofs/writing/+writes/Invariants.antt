use Rattle.std.proofs.Common.{◌≡◌, ◌++◌, ◌∷◌, false, drop, map}
use Rattle.cad_types.specs.Views.{declarations}
use Rattle.cad_values.specs.Values.{pure_value, pure_field, pure_entry, values_of, entries_of, fields_of}
use Rattle.cad_json_export.specs.Texts as spec
use Rattle.cad_json_export.proofs.writing.+writes.Given as goal

abbrev pub invariant-push_values-loop-value : goal.invariant-push_values-loop-value
invariant-push_values-loop-value l =
    l.text ++ spec.values_text (declarations l.kinds) l.later (values_of (map pure_value (drop l.value-index l.values))) ≡ l.fn.text ++ 91 ∷ spec.values_text (declarations l.kinds) false (values_of (map pure_value l.values))

abbrev pub invariant-push_entries-loop-entry : goal.invariant-push_entries-loop-entry
invariant-push_entries-loop-entry l =
    l.text ++ spec.entries_text (declarations l.kinds) l.later (entries_of (map pure_entry (drop l.entry-index l.entries))) ≡ l.fn.text ++ 91 ∷ spec.entries_text (declarations l.kinds) false (entries_of (map pure_entry l.entries))

abbrev pub invariant-push_fields-loop-field : goal.invariant-push_fields-loop-field
invariant-push_fields-loop-field l =
    l.text ++ spec.fields_text (declarations l.kinds) l.later (fields_of (map pure_field (drop l.field-index l.fields))) ≡ l.fn.text ++ spec.fields_text (declarations l.kinds) l.begun (fields_of (map pure_field l.fields))
