use Rattle.std.proofs.Common.{drop, map}
use Rattle.std.specs.Prelude.{◌↔◌}
use Rattle.cad_values.specs.Values.{pure_value, pure_field, pure_entry, values_of, entries_of, fields_of}
use Rattle.cad_fits.specs.Keys as spec
use Rattle.cad_fits.proofs.keys.+apart.Given as goal

abbrev pub invariant-values_apart-loop-value : goal.invariant-values_apart-loop-value
invariant-values_apart-loop-value l = spec.ValuesApart (values_of (map pure_value (drop l.value-index l.values))) ↔ spec.ValuesApart (values_of (map pure_value l.values))

abbrev pub invariant-entries_apart-loop-entry : goal.invariant-entries_apart-loop-entry
invariant-entries_apart-loop-entry l = spec.EntriesApart (entries_of (map pure_entry (drop l.entry-index l.entries))) ↔ spec.EntriesApart (entries_of (map pure_entry l.entries))

abbrev pub invariant-fields_apart-loop-field : goal.invariant-fields_apart-loop-field
invariant-fields_apart-loop-field l = spec.FieldsApart (fields_of (map pure_field (drop l.field-index l.fields))) ↔ spec.FieldsApart (fields_of (map pure_field l.fields))
