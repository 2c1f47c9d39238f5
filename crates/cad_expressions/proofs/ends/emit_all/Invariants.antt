use Rattle.std.proofs.Common.{map}
use Rattle.std.specs.Vec.Iter.{into_iter_items, into_iter_len}
use Rattle.cad_evaluation.specs.Ending.{all_emitted}
use Rattle.cad_expressions.specs.Code.Ending.{HasEmitted}
use Rattle.cad_expression_leaves.specs.Views.{trees_of}
use Rattle.cad_rows.specs.Views.{pure_tree}
use Rattle.cad_expressions.proofs.ends.emit_all.Given as goal

abbrev pub invariant-loop-event : goal.invariant-loop-event
invariant-loop-event l = HasEmitted (all_emitted (trees_of l.fn.events)) l.fn.state (map pure_tree (into_iter_items l.left)) l.state l.emitted

abbrev pub decreases-loop-event : goal.decreases-loop-event
decreases-loop-event l = into_iter_len l.left
