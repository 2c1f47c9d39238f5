use Rattle.std.proofs.Common.{subst}
use Rattle.cad_evaluation.specs.Bodies as spec
use Rattle.cad_outcomes.specs.Outcomes.{no_value}
use Rattle.cad_rows.specs.Views.{pure_tree}
use Rattle.cad_state.specs.Views.{CarriesOut}
use Rattle.cad_calls.proofs.apart.keep_before.Goals as goal

pub returns : goal.returns
returns c =
    subst (λ t. CarriesOut no_value (spec.kept_before (pure_tree t)) c.args.state.now c.keep_before.new.state c.keep_before.result) c.unboxed.ensures c.keep_before.ensures
