use Rattle.std.proofs.Common.{subst}
use Rattle.cad_outcomes.specs.Outcomes.{Gives}
use Rattle.cad_rows.specs.Views.{pure_tree}
use Rattle.cad_world.specs.Rows.{Slot}
use Rattle.cad_world.specs.State.{with_some}
use Rattle.cad_evaluation.specs.Arguments.{in_slot}
use Rattle.cad_evaluation.specs.Reading.{copied}
use Rattle.cad_making.proofs.rows.copy_at.Goals as goal

pub returns-in-Full : goal.returns-in-Full
returns-in-Full c = subst (λ (o : Slot). Gives pure_tree (with_some (in_slot o) copied) c.copied.result) c.in-Full.ensures c.copied.ensures
