use Rattle.std.proofs.Common.{[], subst}
use Rattle.cad_run_outcomes.proofs.Whole.{stays_whole}
use Rattle.cad_run_outcomes.specs.Views.{TellsOver}
use Rattle.cad_run_outcomes.specs.declared.outcome.RunOutcome.{RunOutcome}
use Rattle.cad_run_outcomes.proofs.ended.whole_outcome.Goals as goal

pub returns-in-Stays : goal.returns-in-Stays
returns-in-Stays c = λ told h. stays_whole c.args.outcome c.in-Stays.reply told c.in-Stays.is h

pub returns-in-Leads : goal.returns-in-Leads
returns-in-Leads c = λ told h. c.leads_to.ensures told (subst (λ (x : RunOutcome). TellsOver [] x told) c.in-Leads.is h)
