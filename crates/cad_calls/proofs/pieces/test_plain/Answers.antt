use Rattle.std.proofs.Common.{map, subst}
use Rattle.cad_declarations.specs.Views.{condition_of}
use Rattle.cad_evaluation.specs.Bodies as spec
use Rattle.cad_outcomes.specs.Outcomes.{no_value}
use Rattle.cad_state.specs.Views.{FindsAndCarriesOut}
use Rattle.cad_calls.proofs.pieces.test_plain.Goals as goal

pub returns : goal.returns
returns g c =
    subst (λ l. FindsAndCarriesOut no_value (spec.all_tested (g.C.Callees.front c.args.callees.now) (g.C.Callees.calls c.args.callees.now) (map condition_of l)) c.args.state.now c.test_conditions.new.state c.test_conditions.result) c.as_slice.ensures.value c.test_conditions.ensures
