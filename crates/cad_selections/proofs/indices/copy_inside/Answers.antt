use Rattle.cad_evaluation.specs.Reading.{copied}
use Rattle.cad_outcomes.proofs.Steps.{stops_on}
use Rattle.cad_rows.specs.Views.{pure_tree}
use Rattle.cad_world.specs.State.{give}
use Rattle.cad_world.specs.Trees.{wrapped}
use Rattle.cad_selections.proofs.indices.copy_inside.Goals as goal

pub returns-in-Err : goal.returns-in-Err
returns-in-Err c = λ s. stops_on (copied (pure_tree c.args.tree.now) s) (λ v. give (wrapped v)) c.in-Err.stop (c.in-Err.ensures s)
