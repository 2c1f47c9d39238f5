use Rattle.std.proofs.Common.{List, ap, sym, ◌∙◌, arith}
use Rattle.cad_rows.specs.Views.{pure_row, pure_shape}
use Rattle.cad_rows.specs.declared.tree.Place.{Place}
use Rattle.cad_shapes.specs.Held.{shapes_of}
use Rattle.cad_world.specs.Fits.{have_identities}
use Rattle.cad_world_checks.specs.Identities.{tree_has_identities}
use Rattle.cad_world_checks.proofs.OfValues.{tree_at}
use Rattle.cad_world_checks.proofs.Resources.{row_turn, row_break, row_end, tree_stops, tree_goes}
use Rattle.cad_world_checks.proofs.identities.+have_identities.Goals as goal

pub row_has_identities-returns-then-not-place_has_identities : goal.row_has_identities-returns-then-not-place_has_identities
row_has_identities-returns-then-not-place_has_identities t c =
    let k = shapes_of c.args.shapes.now in
    row_break k c.args.row.now c.loop-place.place-index c.place-item.result (have_identities k (pure_row c.args.row.now)) (omega arith) c.place-item.is (sym c.place_has_identities.ensures ∙ c.if-not-place_has_identities.true) c.loop-place.invariant

pub row_has_identities-loop-place-preserved : goal.row_has_identities-loop-place-preserved
row_has_identities-loop-place-preserved t c =
    let k = shapes_of c.args.shapes.now in
    row_turn k c.args.row.now c.loop-place.place-index c.place-item.result (have_identities k (pure_row c.args.row.now)) (omega arith) c.place-item.is (sym c.place_has_identities.ensures ∙ c.if-not-place_has_identities.false) c.loop-place.invariant

pub row_has_identities-returns : goal.row_has_identities-returns
row_has_identities-returns t c =
    let k = shapes_of c.args.shapes.now in
    row_end k c.args.row.now c.loop-place.place-index (have_identities k (pure_row c.args.row.now)) (omega arith) c.loop-place.invariant

pub tree_has_identities-returns-then-not-has_identity : goal.tree_has_identities-returns-then-not-has_identity
tree_has_identities-returns-then-not-has_identity t c =
    let k = shapes_of c.args.shapes.now in
    let tree = c.args.tree.now in
    tree_stops k (pure_shape tree.shape) (pure_row tree.parts.items) c.has_identity.result c.has_identity.ensures c.if-not-has_identity.true ∙ sym (ap (tree_has_identities k) (tree_at tree))

pub tree_has_identities-returns : goal.tree_has_identities-returns
tree_has_identities-returns t c =
    let k = shapes_of c.args.shapes.now in
    let tree = c.args.tree.now in
    tree_goes k (pure_shape tree.shape) (pure_row tree.parts.items) c.has_identity.result c.row_has_identities.result c.has_identity.ensures c.if-not-has_identity.false
    (c.row_has_identities.ensures ∙ ap (λ (ps : List Place). have_identities k (pure_row ps)) c.as_slice-parts.ensures.value)
    ∙ sym (ap (tree_has_identities k) (tree_at tree))
