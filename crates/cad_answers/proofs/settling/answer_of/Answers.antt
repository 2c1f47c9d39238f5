use Rattle.std.proofs.Common.{subst}
use Rattle.cad_store.specs.Stores.{held}
use Rattle.cad_answers.specs.Code.Outcomes.{Comes}
use Rattle.cad_answers.proofs.Readies.{settled_stays, settled_leads}
use Rattle.cad_answers.proofs.settling.answer_of.Goals as goal

pub returns-in-Stays-clause-settled : goal.returns-in-Stays-clause-settled
returns-in-Stays-clause-settled c = settled_stays (held c.args.store.now) c.args.outcome c.in-Stays.reply c.in-Stays.is

pub commit_of-requires-clause-leads : goal.commit_of-requires-clause-leads
commit_of-requires-clause-leads c =
    let h = subst (λ o. Comes o (held c.args.store.now) c.requires.comes.0 c.requires.comes.1) c.in-Leads.is c.requires.comes.2 in
    (h.3, h.5)

pub returns-in-Leads-clause-settled : goal.returns-in-Leads-clause-settled
returns-in-Leads-clause-settled c =
    settled_leads c.commit_of.result (held c.args.store.now) c.commit_of.new.store c.args.outcome c.in-Leads.reply c.in-Leads.changes c.in-Leads.is c.commit_of.ensures.settled
