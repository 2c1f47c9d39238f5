use Rattle.std.proofs.Common.{arith, add-one}
use Rattle.cad_world.specs.Rows as r
use Rattle.cad_rows.specs.Views.{pure_row, pure_tree}
use Rattle.cad_value_trees.proofs.RowLaws.{values_row, values_turn, values_end, under_keys, entries_turn, entries_end, of_fields, fields_turn, fields_end}
use Rattle.cad_value_trees.proofs.trees.+to_trees.Goals as goal

pub push_values-loop-value-preserved : goal.push_values-loop-value-preserved
push_values-loop-value-preserved t c =
    rw add-one (values_turn c.args.values.now c.loop-value.value-index c.value-item.result (pure_tree c.in_ok-tree.tree) (pure_row c.loop-value.row.items) (pure_row c.add_last.new.row.items) (r.join (pure_row c.args.row.now.items) (values_row c.args.values.now)) c.loop-value-test.true c.value-item.is c.loop-value.invariant c.in_ok-tree.ensures c.in_ok-add_last.ensures)

pub push_values-returns : goal.push_values-returns
push_values-returns t c = values_end c.args.values.now c.loop-value.value-index (pure_row c.loop-value.row.items) (r.join (pure_row c.args.row.now.items) (values_row c.args.values.now)) (omega arith) c.loop-value.invariant

pub push_entries-loop-entry-preserved : goal.push_entries-loop-entry-preserved
push_entries-loop-entry-preserved t c =
    rw add-one (entries_turn c.args.entries.now c.loop-entry.entry-index c.entry-item.result (pure_tree c.in_ok-tree.tree) (pure_row c.loop-entry.row.items) (pure_row c.add_last.new.row.items) (r.join (pure_row c.args.row.now.items) (under_keys c.args.entries.now)) c.loop-entry-test.true c.entry-item.is c.loop-entry.invariant c.in_ok-tree.ensures c.in_ok-add_last.ensures)

pub push_entries-returns : goal.push_entries-returns
push_entries-returns t c = entries_end c.args.entries.now c.loop-entry.entry-index (pure_row c.loop-entry.row.items) (r.join (pure_row c.args.row.now.items) (under_keys c.args.entries.now)) (omega arith) c.loop-entry.invariant

pub push_fields-loop-field-preserved : goal.push_fields-loop-field-preserved
push_fields-loop-field-preserved t c =
    rw add-one (fields_turn c.args.fields.now c.loop-field.field-index c.field-item.result (pure_tree c.in_ok-tree.tree) (pure_row c.loop-field.row.items) (pure_row c.add_last.new.row.items) (r.join (pure_row c.args.row.now.items) (of_fields c.args.fields.now)) c.loop-field-test.true c.field-item.is c.loop-field.invariant c.in_ok-tree.ensures c.in_ok-add_last.ensures)

pub push_fields-returns : goal.push_fields-returns
push_fields-returns t c = fields_end c.args.fields.now c.loop-field.field-index (pure_row c.loop-field.row.items) (r.join (pure_row c.args.row.now.items) (of_fields c.args.fields.now)) (omega arith) c.loop-field.invariant
