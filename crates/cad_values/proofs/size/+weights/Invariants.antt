use Rattle.std.proofs.Common.{◌≡◌, ◌<◌, ◌^◌, ◌-◌, ◌+◌, map, min, drop}
use Rattle.cad_values.specs.Values.{pure_value, pure_field, pure_entry, values_of, entries_of, fields_of}
use Rattle.cad_values.specs.Sizes as spec
use Rattle.cad_values.proofs.size.+weights.Given as goal

abbrev pub invariant-values_weight-loop-value : goal.invariant-values_weight-loop-value
invariant-values_weight-loop-value l =
    (min (l.total + spec.values_weight (values_of (map pure_value (drop l.value-index l.values)))) (2 ^ 64 - 1) ≡ min (spec.values_weight (values_of (map pure_value l.values))) (2 ^ 64 - 1)) × (l.total < 2 ^ 64)

abbrev pub invariant-entries_weight-loop-entry : goal.invariant-entries_weight-loop-entry
invariant-entries_weight-loop-entry l =
    (min (l.total + spec.entries_weight (entries_of (map pure_entry (drop l.entry-index l.entries)))) (2 ^ 64 - 1) ≡ min (spec.entries_weight (entries_of (map pure_entry l.entries))) (2 ^ 64 - 1)) × (l.total < 2 ^ 64)

abbrev pub invariant-fields_weight-loop-field : goal.invariant-fields_weight-loop-field
invariant-fields_weight-loop-field l =
    (min (l.total + spec.fields_weight (fields_of (map pure_field (drop l.field-index l.fields)))) (2 ^ 64 - 1) ≡ min (spec.fields_weight (fields_of (map pure_field l.fields))) (2 ^ 64 - 1)) × (l.total < 2 ^ 64)
