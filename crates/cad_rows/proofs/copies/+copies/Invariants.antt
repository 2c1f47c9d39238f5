use Rattle.std.proofs.Common.{◌≡◌, ◌++◌, map, drop}
use Rattle.cad_values.specs.Values.{pure_value, pure_entry, pure_field}
use Rattle.cad_rows.proofs.copies.+copies.Given as goal

abbrev pub invariant-copy_values-loop-value : goal.invariant-copy_values-loop-value
invariant-copy_values-loop-value l = map pure_value l.copies.items ++ map pure_value (drop l.value-index l.values) ≡ map pure_value l.values

abbrev pub invariant-copy_entries-loop-entry : goal.invariant-copy_entries-loop-entry
invariant-copy_entries-loop-entry l = map pure_entry l.copies.items ++ map pure_entry (drop l.entry-index l.entries) ≡ map pure_entry l.entries

abbrev pub invariant-copy_fields-loop-field : goal.invariant-copy_fields-loop-field
invariant-copy_fields-loop-field l = map pure_field l.copies.items ++ map pure_field (drop l.field-index l.fields) ≡ map pure_field l.fields
