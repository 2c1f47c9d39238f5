use Rattle.cad_evaluation.specs.Ending.{event_of}
use Rattle.cad_execution.proofs.Passed.{carries_boxed}
use Rattle.cad_rows.specs.Views.{pure_row}
use Rattle.cad_calls.proofs.apart.event.Goals as goal

pub returns : goal.returns
returns c =
    carries_boxed (event_of c.args.id.now (pure_row c.args.row.items)) c.args.state.now c.args.state.now c.event.result c.boxed.result c.boxed.ensures c.event.ensures
