-- What the program's values say of what a command comes to.
use Rattle.std.specs.Prelude.{◌≡◌, ◌≢◌, ℕ, List, []}
use Rattle.serde_json.specs.Data.{Data}
use Rattle.cad_wire.specs.declared.entry.Entry.{Entry}
use Rattle.cad_accounts.specs.Registers.{Map, applied, Leads}
use Rattle.cad_commands.specs.Commands.{command_of}
use Rattle.cad_runs.specs.Commands as command
use Rattle.cad_runs.specs.Commands.{Command}
use Rattle.cad_store.specs.declared.store.Store.{Store}
use Rattle.cad_store.specs.Stores.{held, IsOut}
use Rattle.cad_run_outcomes.specs.Outcomes as spec
use Rattle.cad_world.specs.State.{World}
use Rattle.cad_worlds.specs.Standing.{StandsFor, Becomes}
use Rattle.cad_answers.specs.Answer.{Does, Commits, answer_line}
use Rattle.cad_answers.specs.Code.Views.{Tells}
use Rattle.cad_answers.specs.declared.outcome.Outcome.{Outcome}
use Rattle.cad_answers.specs.declared.outcome.Outcome.TheVariants as outcome
use Rattle.cad_answers.specs.declared.ready.Prepared.{Prepared}
use Rattle.cad_answers.specs.declared.ready.Prepared.TheVariants as prepared
use Rattle.cad_answers.specs.declared.settling.Settled.{Settled}
use Rattle.cad_answers.specs.declared.settling.Settled.TheVariants as settled

-- over these registers it is one that is allowed
abbrev pub ComesBy : Outcome → Map → (spec.Outcome → Type 0) → Type 0
ComesBy (outcome.Stays reply) map Allowed = (a : command.Reply Data) × Tells reply a × Allowed (spec.stays a)
ComesBy (outcome.Leads reply changes) map Allowed =
    (a : command.Reply Data) × Tells reply a × (v : World) × (new : Map) × Allowed (spec.leads a v) × Leads map new changes × (u : World) × StandsFor new u × Becomes v u

-- it is what the command comes to
abbrev pub Comes : Outcome → Map → World → Command Data → Type 0
Comes o map w command = ComesBy o map (Does w command)

-- what a line that isn't too long is answered, and the World then
abbrev pub RunsTo : World → List ℕ → command.Reply Data → World → Type 0
RunsTo w line a v = (o : spec.Outcome) × Does w (command_of line) o × Commits w o a v

-- A reply is ready to be told, or a commit is ready to be written before it: both are allowed.
abbrev pub IsSettled : Settled → Store → (command.Reply Data → World → Type 0) → Type 0
IsSettled (settled.Reply reply) store Allowed = (a : command.Reply Data) × (v : World) × Allowed a v × Tells reply a × StandsFor (held store) v
IsSettled (settled.Commit commit reply) store Allowed =
    (a : command.Reply Data) × (v : World) × (changes : List Entry) × Allowed a v × Tells reply a × IsOut store commit changes × StandsFor (applied changes (held store)) v
    × Leads (held store) (applied changes (held store)) changes × (changes ≢ [])

-- so of the reply's line
abbrev pub IsReady : Prepared → Store → (command.Reply Data → World → Type 0) → Type 0
IsReady (prepared.Reply text) store Allowed = (a : command.Reply Data) × (v : World) × Allowed a v × (text ≡ answer_line a) × StandsFor (held store) v
IsReady (prepared.Commit commit text) store Allowed =
    (a : command.Reply Data) × (v : World) × (changes : List Entry) × Allowed a v × (text ≡ answer_line a) × IsOut store commit changes × StandsFor (applied changes (held store)) v
    × Leads (held store) (applied changes (held store)) changes × (changes ≢ [])
