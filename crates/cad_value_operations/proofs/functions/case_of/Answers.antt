use Rattle.cad_evaluation.specs.Making.{case_from}
use Rattle.cad_outcomes.specs.Outcomes.{Does}
use Rattle.cad_rows.specs.Views.{pure_tree}
use Rattle.cad_state.specs.Views.{state_over}
use Rattle.cad_world.specs.Rows.{Tree}
use Rattle.cad_world.specs.State.{with_some}
use Rattle.std.proofs.Common.{Option, subst}
use Rattle.cad_value_operations.proofs.functions.case_of.Goals as goal

pub returns-in-Some : goal.returns-in-Some
returns-in-Some c = λ w. subst (λ (o : Option Tree). Does pure_tree (with_some o (case_from c.args.id.now)) (state_over w c.args.state.now) (state_over w c.args.state.now) c.case_from.result) c.in-Some.ensures (c.case_from.ensures w)
