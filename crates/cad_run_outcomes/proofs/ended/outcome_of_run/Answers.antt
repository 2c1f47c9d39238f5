use Rattle.cad_state.specs.Views.{state_over}
use Rattle.cad_run_outcomes.proofs.Runs.{tells_ended, tells_stop}
use Rattle.cad_run_outcomes.proofs.ended.outcome_of_run.Goals as goal

pub returns-in-Ok : goal.returns-in-Ok
returns-in-Ok c = λ action before base kept does.
    tells_ended base c.outcome_of_state.result c.args.run tt action before (state_over base c.args.state) c.in-Ok.is does (c.outcome_of_state.ensures base kept)

pub returns-in-Ok-reply_to_stop : goal.returns-in-Ok-reply_to_stop
returns-in-Ok-reply_to_stop c = λ action before base kept does.
    tells_stop base c.in-Err.stop c.args.run action before (state_over base c.args.state) c.in-Ok-reply_to_stop.reply c.in-Err.is does c.in-Ok-reply_to_stop.ensures
