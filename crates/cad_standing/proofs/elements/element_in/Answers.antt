use Rattle.cad_evaluation.specs.Standing.{element_at}
use Rattle.cad_outcomes.proofs.Steps.{stops_on}
use Rattle.cad_rows.specs.Views.{pure_shape, pure_tree}
use Rattle.cad_standing.proofs.elements.element_in.Goals as goal

pub returns-in-Err : goal.returns-in-Err
returns-in-Err c = λ s. stops_on (element_at (pure_tree c.args.index.now) c.args.label (pure_shape c.args.shape.now) s) _ c.in-Err.stop (c.in-Err.ensures s)
