use Rattle.std.proofs.Common.{subst}
use Rattle.cad_evaluation.specs.Bodies as spec
use Rattle.cad_outcomes.specs.Outcomes.{no_value}
use Rattle.cad_rows.specs.Views.{pure_tree}
use Rattle.cad_state.specs.Views.{CarriesOut}
use Rattle.cad_calls.proofs.apart.put_result.Goals as goal

pub returns : goal.returns
returns c =
    subst (λ t. CarriesOut no_value (spec.result_aside (pure_tree t)) c.args.state.now c.put_result.new.state c.put_result.result) c.unboxed.ensures c.put_result.ensures
