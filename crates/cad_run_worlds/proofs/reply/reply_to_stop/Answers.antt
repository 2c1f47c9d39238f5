use Rattle.std.proofs.Common.{ap}
use Rattle.cad_outcomes.specs.Outcomes.{error_number}
use Rattle.cad_runs.specs.Commands.{failed, limit, ill}
use Rattle.cad_run_worlds.specs.Code.{told_stop}
use Rattle.cad_run_worlds.proofs.reply.reply_to_stop.Goals as goal

pub returns-in-Failed : goal.returns-in-Failed
returns-in-Failed c = (failed (error_number c.in-Failed.error), ap told_stop c.in-Failed.is, c.number.ensures)

pub returns-in-Limit : goal.returns-in-Limit
returns-in-Limit c = (limit, ap told_stop c.in-Limit.is, tt)

pub returns-in-IllTyped : goal.returns-in-IllTyped
returns-in-IllTyped c = (ill, ap told_stop c.in-IllTyped.is, tt)
