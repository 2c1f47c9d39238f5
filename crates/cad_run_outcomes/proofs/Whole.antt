-- What is told of a run over a whole World.
use Rattle.std.proofs.Common.{◌≡◌, List, [], map, refl, sym, ap, ◌∙◌, subst}
use Rattle.std.specs.Global.{Vec}
use Rattle.cad_run_worlds.specs.Worlds.{run_world}
use Rattle.cad_run_worlds.specs.declared.reply.ScriptReply.{ScriptReply}
use Rattle.cad_run_worlds.specs.declared.run_worlds.RunWorld.{RunWorld}
use Rattle.cad_state.specs.Views.{account_of, accounts_over, contract_of}
use Rattle.cad_state.specs.declared.state.Account.{Account}
use Rattle.cad_state.specs.declared.state.Accounts.{Accounts}
use Rattle.cad_state.specs.declared.state.Accounts.TheVariants as v
use Rattle.cad_world.specs.State as s
use Rattle.cad_worlds.specs.declared.kept.World.{World}
use Rattle.cad_run_outcomes.specs.Outcomes.{Outcome, stays, leads}
use Rattle.cad_run_outcomes.specs.Views.{Tells, TellsOver}
use Rattle.cad_run_outcomes.specs.declared.outcome.Receipt.{Receipt}
use Rattle.cad_run_outcomes.specs.declared.outcome.RunOutcome.{RunOutcome}
use Rattle.cad_run_outcomes.specs.declared.outcome.RunOutcome.TheVariants as over
use Rattle.cad_run_outcomes.specs.declared.outcome.TransactionOutcome.TheVariants as own

stays_so : (reply : ScriptReply) (o : Outcome) → TellsOver [] (over.Stays reply) o → Tells (own.Stays reply) o
stays_so reply (stays a) h = h
stays_so reply (leads a w) h = absurd h

pub stays_whole : (outcome : RunOutcome) (reply : ScriptReply) (o : Outcome) → outcome ≡ over.Stays reply → TellsOver [] outcome o → Tells (own.Stays reply) o
stays_whole outcome reply o is h = stays_so reply o (subst (λ (x : RunOutcome). TellsOver [] x o) is h)

all_over : (all : Vec Account) → map account_of all.items ≡ accounts_over [] (v.All all)
unfolding accounts_over
all_over all = refl

pub leads_whole : (receipt : Receipt) (world : RunWorld) (all : Vec Account) (o : Outcome) → world.accounts ≡ v.All all → TellsOver [] (over.Leads receipt world) o
    → Tells (own.Leads receipt (record { accounts = all; contracts = world.contracts; next_identity = world.next_identity })) o
leads_whole receipt world all (stays a) is h = absurd h
leads_whole receipt world all (leads a w) is h =
    let same : map account_of all.items ≡ accounts_over [] world.accounts = all_over all ∙ ap (accounts_over []) (sym is) in
    (h.0, (λ i. record { accounts = same i; contracts = map contract_of world.contracts.items; next_identity = world.next_identity }) ∙ h.1)
