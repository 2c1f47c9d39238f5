use Rattle.std.proofs.Common.{arith, subst}
use Rattle.cad_declarations.specs.Views.{before_of}
use Rattle.cad_evaluation.specs.Bodies as spec
use Rattle.cad_outcomes.specs.Outcomes.{no_value}
use Rattle.cad_state.specs.Views.{CarriesOut}
use Rattle.cad_calls.proofs.Lists.{counted}
use Rattle.cad_calls.proofs.pieces.pass_function.Goals as goal

pub returns : goal.returns
returns c =
    subst (λ n. CarriesOut no_value (spec.passed_before n) c.args.state.now c.pass_before.new.state c.pass_before.result) (counted before_of c.len.result c.args.function.now.before.items (omega (arith, c.len.ensures, c.args.function.now.before.ok.0))) c.pass_before.ensures
