use Rattle.cad_evaluation.specs.Bodies as spec
use Rattle.cad_execution.proofs.Passed.{carries_boxed}
use Rattle.cad_calls.proofs.apart.take_result.Goals as goal

pub returns : goal.returns
returns c =
    carries_boxed spec.result_taken c.args.state.now c.take_result.new.state c.take_result.result c.boxed.result c.boxed.ensures c.take_result.ensures
