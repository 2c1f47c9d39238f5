use Rattle.std.proofs.Common.{◌≡◌, drop}
use Rattle.cad_world.specs.Rows as r
use Rattle.cad_rows.specs.Views.{pure_row}
use Rattle.cad_value_trees.proofs.RowLaws.{values_row, under_keys, of_fields}
use Rattle.cad_value_trees.proofs.trees.+to_trees.Given as goal

abbrev pub invariant-push_values-loop-value : goal.invariant-push_values-loop-value
invariant-push_values-loop-value l = r.join (pure_row l.row.items) (values_row (drop l.value-index l.values)) ≡ r.join (pure_row l.fn.row.items) (values_row l.values)

abbrev pub invariant-push_entries-loop-entry : goal.invariant-push_entries-loop-entry
invariant-push_entries-loop-entry l = r.join (pure_row l.row.items) (under_keys (drop l.entry-index l.entries)) ≡ r.join (pure_row l.fn.row.items) (under_keys l.entries)

abbrev pub invariant-push_fields-loop-field : goal.invariant-push_fields-loop-field
invariant-push_fields-loop-field l = r.join (pure_row l.row.items) (of_fields (drop l.field-index l.fields)) ≡ r.join (pure_row l.fn.row.items) (of_fields l.fields)
