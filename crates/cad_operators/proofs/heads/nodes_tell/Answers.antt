use Rattle.cad_rows.specs.Views.{pure_row, pure_shape, pure_tree}
use Rattle.cad_operators.proofs.HeadLaws.{apart_at, head_at}
use Rattle.cad_operators.proofs.heads.nodes_tell.Goals as goal

pub returns-then-optionals : goal.returns-then-optionals
returns-then-optionals c =
    apart_at (pure_tree c.args.a.now) (pure_tree c.args.b.now) c.optionals.result c.optionals-2.result
    (pure_shape c.shape.result.now) (pure_shape c.shape-else-not-is_lean.result.now) c.is_lean.result c.is_lean-else-not-is_lean.result
    c.optionals.ensures c.optionals-2.ensures c.if-optionals.true c.shape.ensures c.shape-else-not-is_lean.ensures
    c.is_lean.ensures c.if-not-is_lean.false c.is_lean-else-not-is_lean.ensures c.if-not-is_lean-2.false

pub returns : goal.returns
returns c =
    head_at c.head_of_shapes.result (pure_tree c.args.a.now) (pure_tree c.args.b.now) c.optionals.result c.optionals-2.result
    (pure_shape c.shape.result.now) (pure_shape c.shape-2.result.now) (pure_shape c.shape-else-not-is_lean.result.now) (pure_shape c.shape-3.result.now)
    (pure_row c.parts.result.now) (pure_row c.parts-2.result.now) c.is_lean.result c.is_lean-else-not-is_lean.result
    c.optionals.ensures c.optionals-2.ensures c.if-optionals.false c.shape.ensures c.shape-else-not-is_lean.ensures
    c.is_lean.ensures c.if-not-is_lean.false c.is_lean-else-not-is_lean.ensures c.if-not-is_lean-2.false
    c.shape-2.ensures c.parts.ensures c.shape-3.ensures c.parts-2.ensures c.head_of_shapes.ensures
