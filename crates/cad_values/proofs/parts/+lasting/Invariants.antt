use Rattle.std.proofs.Common.{◌≡◌, drop, map}
use Rattle.cad_values.specs.Forms.{all_values, all_entries, all_fields, is_plain_lasting}
use Rattle.cad_values.specs.Values.{pure_value, pure_field, pure_entry, values_of, entries_of, fields_of}
use Rattle.cad_values.proofs.parts.+lasting.Given as goal

abbrev pub invariant-none_in_values-loop-value : goal.invariant-none_in_values-loop-value
invariant-none_in_values-loop-value l =
    all_values is_plain_lasting (values_of (map pure_value (drop l.value-index l.values))) ≡ all_values is_plain_lasting (values_of (map pure_value l.values))

abbrev pub invariant-none_in_entries-loop-entry : goal.invariant-none_in_entries-loop-entry
invariant-none_in_entries-loop-entry l =
    all_entries is_plain_lasting (entries_of (map pure_entry (drop l.entry-index l.entries))) ≡ all_entries is_plain_lasting (entries_of (map pure_entry l.entries))

abbrev pub invariant-none_in_fields-loop-field : goal.invariant-none_in_fields-loop-field
invariant-none_in_fields-loop-field l =
    all_fields is_plain_lasting (fields_of (map pure_field (drop l.field-index l.fields))) ≡ all_fields is_plain_lasting (fields_of (map pure_field l.fields))
