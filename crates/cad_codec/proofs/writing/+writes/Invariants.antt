use Rattle.std.proofs.Common.{◌≡◌, ◌++◌, drop, map}
use Rattle.cad_values.specs.Values.{pure_value, pure_entry, pure_field, values_of, entries_of, fields_of}
use Rattle.cad_codec.specs.Ranges.{ValuesInRange, EntriesInRange, FieldsInRange}
use Rattle.cad_codec.specs.ValueBytes as spec
use Rattle.cad_codec.proofs.writing.+writes.Given as goal

abbrev pub invariant-write_values-loop-value : goal.invariant-write_values-loop-value
invariant-write_values-loop-value l =
    (l.writer ++ spec.values_bytes (values_of (map pure_value (drop l.value-index l.values))) ≡ l.fn.writer ++ spec.values_field (values_of (map pure_value l.values)))
    × (ValuesInRange (values_of (map pure_value (drop l.value-index l.values))) → ValuesInRange (values_of (map pure_value l.values)))

abbrev pub invariant-write_entries-loop-entry : goal.invariant-write_entries-loop-entry
invariant-write_entries-loop-entry l =
    (l.writer ++ spec.entries_bytes (entries_of (map pure_entry (drop l.entry-index l.entries))) ≡ l.fn.writer ++ spec.entries_field (entries_of (map pure_entry l.entries)))
    × (EntriesInRange (entries_of (map pure_entry (drop l.entry-index l.entries))) → EntriesInRange (entries_of (map pure_entry l.entries)))

abbrev pub invariant-write_fields-loop-field : goal.invariant-write_fields-loop-field
invariant-write_fields-loop-field l =
    (l.writer ++ spec.fields_bytes (fields_of (map pure_field (drop l.field-index l.fields))) ≡ l.fn.writer ++ spec.fields_field (fields_of (map pure_field l.fields)))
    × (FieldsInRange (fields_of (map pure_field (drop l.field-index l.fields))) → FieldsInRange (fields_of (map pure_field l.fields)))
