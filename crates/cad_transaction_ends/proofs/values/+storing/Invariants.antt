use Rattle.std.proofs.Common.{◌≡◌, drop, map}
use Rattle.cad_values.specs.Forms.{all_values, all_entries, all_fields, is_plain_storable}
use Rattle.cad_values.specs.Values.{pure_value, pure_field, pure_entry, values_of, entries_of, fields_of}
use Rattle.cad_transaction_ends.proofs.values.+storing.Given as goal

abbrev pub invariant-are_storable-loop-value : goal.invariant-are_storable-loop-value
invariant-are_storable-loop-value l = all_values is_plain_storable (values_of (map pure_value (drop l.value-index l.values))) ≡ all_values is_plain_storable (values_of (map pure_value l.values))

abbrev pub invariant-are_entries_storable-loop-entry : goal.invariant-are_entries_storable-loop-entry
invariant-are_entries_storable-loop-entry l =
    all_entries is_plain_storable (entries_of (map pure_entry (drop l.entry-index l.entries))) ≡ all_entries is_plain_storable (entries_of (map pure_entry l.entries))

abbrev pub invariant-are_fields_storable-loop-field : goal.invariant-are_fields_storable-loop-field
invariant-are_fields_storable-loop-field l =
    all_fields is_plain_storable (fields_of (map pure_field (drop l.field-index l.fields))) ≡ all_fields is_plain_storable (fields_of (map pure_field l.fields))
