use Rattle.std.proofs.Common.{◌≡◌, ◌<◌, ◌^◌, ◌-◌, map, min, max, drop}
use Rattle.cad_values.specs.Values.{pure_value, pure_field, pure_entry, values_of, entries_of, fields_of}
use Rattle.cad_values.specs.Sizes as spec
use Rattle.cad_values.proofs.size.+heights.Given as goal

abbrev pub invariant-values_height-loop-value : goal.invariant-values_height-loop-value
invariant-values_height-loop-value l =
    (min (max l.highest (spec.values_height (values_of (map pure_value (drop l.value-index l.values))))) (2 ^ 64 - 1) ≡ min (spec.values_height (values_of (map pure_value l.values))) (2 ^ 64 - 1)) × (l.highest < 2 ^ 64)

abbrev pub invariant-entries_height-loop-entry : goal.invariant-entries_height-loop-entry
invariant-entries_height-loop-entry l =
    (min (max l.highest (spec.entries_height (entries_of (map pure_entry (drop l.entry-index l.entries))))) (2 ^ 64 - 1) ≡ min (spec.entries_height (entries_of (map pure_entry l.entries))) (2 ^ 64 - 1)) × (l.highest < 2 ^ 64)

abbrev pub invariant-fields_height-loop-field : goal.invariant-fields_height-loop-field
invariant-fields_height-loop-field l =
    (min (max l.highest (spec.fields_height (fields_of (map pure_field (drop l.field-index l.fields))))) (2 ^ 64 - 1) ≡ min (spec.fields_height (fields_of (map pure_field l.fields))) (2 ^ 64 - 1)) × (l.highest < 2 ^ 64)
