use Rattle.std.proofs.Common.{List, length, ap, sym, ◌∙◌, arith}
use Rattle.cad_rows.specs.Views.{pure_row, pure_shape}
use Rattle.cad_rows.specs.declared.tree.Place.{Place}
use Rattle.cad_world_checks.specs.OfValues.{are_of_values, is_of_value}
use Rattle.cad_world_checks.proofs.OfValues.{row_turn, row_break, row_end, tree_at, tree_stops, tree_goes}
use Rattle.cad_world_checks.proofs.of_values.+of_values.Goals as goal

pub row_is_of_values-returns-then-not-place_is_of_value : goal.row_is_of_values-returns-then-not-place_is_of_value
row_is_of_values-returns-then-not-place_is_of_value t c =
    row_break c.args.row.now c.loop-place.place-index c.place-item.result (are_of_values (pure_row c.args.row.now)) (omega arith) c.place-item.is (sym c.place_is_of_value.ensures ∙ c.if-not-place_is_of_value.true) c.loop-place.invariant

pub row_is_of_values-loop-place-preserved : goal.row_is_of_values-loop-place-preserved
row_is_of_values-loop-place-preserved t c =
    row_turn c.args.row.now c.loop-place.place-index c.place-item.result (are_of_values (pure_row c.args.row.now)) (omega arith) c.place-item.is (sym c.place_is_of_value.ensures ∙ c.if-not-place_is_of_value.false) c.loop-place.invariant

pub row_is_of_values-returns : goal.row_is_of_values-returns
row_is_of_values-returns t c = row_end c.args.row.now c.loop-place.place-index (are_of_values (pure_row c.args.row.now)) (omega arith) c.loop-place.invariant

pub tree_is_of_value-returns-then-not-has_parts : goal.tree_is_of_value-returns-then-not-has_parts
tree_is_of_value-returns-then-not-has_parts t c =
    let tree = c.args.tree.now in
    tree_stops (pure_shape tree.shape) tree.parts.items (length c.as_slice-parts.result.now) c.has_parts.result (ap length c.as_slice-parts.ensures.value) c.has_parts.ensures c.if-not-has_parts.true ∙ sym (ap is_of_value (tree_at tree))

pub tree_is_of_value-returns : goal.tree_is_of_value-returns
tree_is_of_value-returns t c =
    let tree = c.args.tree.now in
    tree_goes (pure_shape tree.shape) tree.parts.items (length c.as_slice-parts.result.now) c.has_parts.result c.row_is_of_values.result (ap length c.as_slice-parts.ensures.value) c.has_parts.ensures c.if-not-has_parts.false
    (c.row_is_of_values.ensures ∙ ap (λ (ps : List Place). are_of_values (pure_row ps)) c.as_slice-parts.ensures.value)
    ∙ sym (ap is_of_value (tree_at tree))
