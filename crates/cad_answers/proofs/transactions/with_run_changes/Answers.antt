use Rattle.cad_store.specs.Stores.{held}
use Rattle.cad_answers.proofs.Transacting.{run_leads_so, run_stays_so}
use Rattle.cad_answers.proofs.transactions.with_run_changes.Goals as goal

pub returns-in-Stays : goal.returns-in-Stays
returns-in-Stays c = λ w o stands. run_stays_so w.accounts c.args.comes c.in-Stays.reply c.reply_of.result (held c.args.store.now) c.in-Stays.is c.reply_of.ensures o

pub returns-in_ok-changes-in-Leads : goal.returns-in_ok-changes-in-Leads
returns-in_ok-changes-in-Leads c = λ w o stands.
    run_leads_so w.accounts c.args.comes c.in-Leads.receipt c.in-Leads.world c.in_ok-changes-in-Leads.changes (held c.args.store.now) c.in-Leads.is (c.in_ok-changes-in-Leads.ensures w stands) o
