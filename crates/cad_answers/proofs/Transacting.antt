-- What the program's values say of transactions.
use Rattle.std.proofs.Common.{◌≡◌, List, refl, ap, subst}
use Rattle.serde_json.specs.Data.{Data}
use Rattle.cad_accounts.specs.Registers.{Map}
use Rattle.cad_runs.specs.Commands as runs
use Rattle.cad_run_worlds.specs.Views as script
use Rattle.cad_run_worlds.specs.Worlds.{run_world}
use Rattle.cad_run_worlds.specs.declared.reply.ScriptReply.{ScriptReply}
use Rattle.cad_run_worlds.specs.declared.run_worlds.RunWorld.{RunWorld}
use Rattle.cad_run_outcomes.specs.Outcomes as spec
use Rattle.cad_run_outcomes.specs.Views as told
use Rattle.cad_run_outcomes.specs.declared.outcome.Receipt.{Receipt}
use Rattle.cad_run_outcomes.specs.declared.outcome.RunOutcome.{RunOutcome}
use Rattle.cad_run_outcomes.specs.declared.outcome.RunOutcome.TheVariants as run
use Rattle.cad_run_outcomes.specs.declared.outcome.TransactionOutcome.{TransactionOutcome}
use Rattle.cad_run_outcomes.specs.declared.outcome.TransactionOutcome.TheVariants as own
use Rattle.cad_wire.specs.declared.entry.Entry.{Entry}
use Rattle.cad_world.specs.State.{Account}
use Rattle.cad_worlds.specs.Standing.{world_of}
use Rattle.cad_worlds.specs.declared.kept.World.{World}
use Rattle.cad_answers.specs.Code.Outcomes.{ComesBy}
use Rattle.cad_answers.specs.Code.Views.{Tells}
use Rattle.cad_serve_parts.specs.Code.Worlds.{LeadsOn}
use Rattle.cad_answers.specs.declared.outcome.Outcome.TheVariants.{Stays, Leads as Leading}
use Rattle.cad_answers.specs.declared.reply.Reply.{Reply}
use Rattle.cad_answers.specs.declared.reply.Reply.TheVariants as reply

-- it leaves the World
stays_as : (own_reply : ScriptReply) (r : Reply) (base : Map) (o : spec.Outcome) → ((x : runs.Reply Data) → script.Tells own_reply x → Tells r x) → told.Tells (own.Stays own_reply) o → ComesBy (Stays r) base (λ x. x ≡ o)
stays_as own_reply r base (spec.stays a) f h = (a, f a h, refl)
stays_as own_reply r base (spec.leads a v) f h = absurd h

pub stays_so : (comes : TransactionOutcome) (own_reply : ScriptReply) (r : Reply) (base : Map) → comes ≡ own.Stays own_reply → ((x : runs.Reply Data) → script.Tells own_reply x → Tells r x)
    → (o : spec.Outcome) → told.Tells comes o → ComesBy (Stays r) base (λ x. x ≡ o)
stays_so comes own_reply r base is f o h = stays_as own_reply r base o f (subst (λ (x : TransactionOutcome). told.Tells x o) is h)

-- it leads to one whose registers are known
leads_as : (receipt : Receipt) (world : World) (changes : List Entry) (base : Map) (o : spec.Outcome) → LeadsOn base (world_of world) changes → told.Tells (own.Leads receipt world) o
    → ComesBy (Leading (reply.Ran receipt) changes) base (λ x. x ≡ o)
leads_as receipt world changes base (spec.stays a) known h = absurd h
leads_as receipt world changes base (spec.leads a v) known h = (a, h.0, world_of world, known.0, ap (spec.leads a) h.1, known.1, known.2, known.3, known.4)

pub leads_so : (comes : TransactionOutcome) (receipt : Receipt) (world : World) (changes : List Entry) (base : Map) → comes ≡ own.Leads receipt world → LeadsOn base (world_of world) changes
    → (o : spec.Outcome) → told.Tells comes o → ComesBy (Leading (reply.Ran receipt) changes) base (λ x. x ≡ o)
leads_so comes receipt world changes base is known o h = leads_as receipt world changes base o known (subst (λ (x : TransactionOutcome). told.Tells x o) is h)

-- ---- of all accounts or some

run_stays_as : (accounts : List Account) (own_reply : ScriptReply) (r : Reply) (base : Map) (o : spec.Outcome) → ((x : runs.Reply Data) → script.Tells own_reply x → Tells r x) → told.TellsOver accounts (run.Stays own_reply) o
    → ComesBy (Stays r) base (λ x. x ≡ o)
run_stays_as accounts own_reply r base (spec.stays a) f h = (a, f a h, refl)
run_stays_as accounts own_reply r base (spec.leads a v) f h = absurd h

pub run_stays_so : (accounts : List Account) (comes : RunOutcome) (own_reply : ScriptReply) (r : Reply) (base : Map) → comes ≡ run.Stays own_reply → ((x : runs.Reply Data) → script.Tells own_reply x → Tells r x)
    → (o : spec.Outcome) → told.TellsOver accounts comes o → ComesBy (Stays r) base (λ x. x ≡ o)
run_stays_so accounts comes own_reply r base is f o h = run_stays_as accounts own_reply r base o f (subst (λ (x : RunOutcome). told.TellsOver accounts x o) is h)

run_leads_as : (accounts : List Account) (receipt : Receipt) (world : RunWorld) (changes : List Entry) (base : Map) (o : spec.Outcome) → LeadsOn base (run_world accounts world) changes
    → told.TellsOver accounts (run.Leads receipt world) o → ComesBy (Leading (reply.Ran receipt) changes) base (λ x. x ≡ o)
run_leads_as accounts receipt world changes base (spec.stays a) known h = absurd h
run_leads_as accounts receipt world changes base (spec.leads a v) known h = (a, h.0, run_world accounts world, known.0, ap (spec.leads a) h.1, known.1, known.2, known.3, known.4)

pub run_leads_so : (accounts : List Account) (comes : RunOutcome) (receipt : Receipt) (world : RunWorld) (changes : List Entry) (base : Map) → comes ≡ run.Leads receipt world → LeadsOn base (run_world accounts world) changes
    → (o : spec.Outcome) → told.TellsOver accounts comes o → ComesBy (Leading (reply.Ran receipt) changes) base (λ x. x ≡ o)
run_leads_so accounts comes receipt world changes base is known o h = run_leads_as accounts receipt world changes base o known (subst (λ (x : RunOutcome). told.TellsOver accounts x o) is h)
