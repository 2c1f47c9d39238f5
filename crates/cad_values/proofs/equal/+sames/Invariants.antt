use Rattle.std.proofs.Common.{◌≡◌, ◌↔◌, drop, map}
use Rattle.cad_values.specs.Values.{pure_value, pure_field, pure_entry, values_of, entries_of, fields_of}
use Rattle.cad_values.proofs.equal.+sames.Given as goal

abbrev pub invariant-same_values-loop-i : goal.invariant-same_values-loop-i
invariant-same_values-loop-i l =
    (values_of (map pure_value (drop l.i l.a)) ≡ values_of (map pure_value (drop l.i l.b))) ↔ (values_of (map pure_value l.a) ≡ values_of (map pure_value l.b))

abbrev pub invariant-same_entries-loop-i : goal.invariant-same_entries-loop-i
invariant-same_entries-loop-i l =
    (entries_of (map pure_entry (drop l.i l.a)) ≡ entries_of (map pure_entry (drop l.i l.b))) ↔ (entries_of (map pure_entry l.a) ≡ entries_of (map pure_entry l.b))

abbrev pub invariant-same_fields-loop-i : goal.invariant-same_fields-loop-i
invariant-same_fields-loop-i l =
    (fields_of (map pure_field (drop l.i l.a)) ≡ fields_of (map pure_field (drop l.i l.b))) ↔ (fields_of (map pure_field l.a) ≡ fields_of (map pure_field l.b))
