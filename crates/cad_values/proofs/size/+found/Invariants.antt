use Rattle.std.proofs.Common.{◌≡◌, ◌++◌, map, drop}
use Rattle.cad_values.specs.Values.{pure_value, pure_field, pure_entry, values_of, entries_of, fields_of}
use Rattle.cad_values.specs.Sizes as spec
use Rattle.cad_values.proofs.size.+found.Given as goal

abbrev pub invariant-add_of_values-loop-value : goal.invariant-add_of_values-loop-value
invariant-add_of_values-loop-value l =
    l.found ++ spec.values_identities (values_of (map pure_value (drop l.value-index l.values))) ≡ l.fn.found ++ spec.values_identities (values_of (map pure_value l.values))

abbrev pub invariant-add_of_entries-loop-entry : goal.invariant-add_of_entries-loop-entry
invariant-add_of_entries-loop-entry l =
    l.found ++ spec.entries_identities (entries_of (map pure_entry (drop l.entry-index l.entries))) ≡ l.fn.found ++ spec.entries_identities (entries_of (map pure_entry l.entries))

abbrev pub invariant-add_of_fields-loop-field : goal.invariant-add_of_fields-loop-field
invariant-add_of_fields-loop-field l =
    l.found ++ spec.fields_identities (fields_of (map pure_field (drop l.field-index l.fields))) ≡ l.fn.found ++ spec.fields_identities (fields_of (map pure_field l.fields))
