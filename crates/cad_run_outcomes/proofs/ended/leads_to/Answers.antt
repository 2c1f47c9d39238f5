use Rattle.cad_run_outcomes.proofs.Whole.{leads_whole}
use Rattle.cad_run_outcomes.proofs.ended.leads_to.Goals as goal

pub returns-in-All : goal.returns-in-All
returns-in-All c = λ outcome h. leads_whole c.args.receipt c.args.world c.in-All.accounts outcome c.in-All.is h
