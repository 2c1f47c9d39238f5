-- What values of the code tell.
use Rattle.std.specs.Prelude.{◌≡◌, List, [], ◌∷◌}
use Rattle.serde_json.specs.Data.{Data, array, Items, no_items, item}
use Rattle.serde_json.specs.Written.{compact_text}
use Rattle.cad_runs.specs.Commands.{Reply, ran}
use Rattle.cad_run_worlds.specs.Views as script
use Rattle.cad_run_worlds.specs.Worlds.{run_world}
use Rattle.cad_world.specs.State.{Account}
use Rattle.cad_worlds.specs.Standing.{world_of}
use Rattle.cad_run_outcomes.specs.Outcomes.{Outcome, stays, leads}
use Rattle.cad_run_outcomes.specs.declared.outcome.Receipt.{Receipt}
use Rattle.cad_run_outcomes.specs.declared.outcome.RunOutcome.{RunOutcome}
use Rattle.cad_run_outcomes.specs.declared.outcome.RunOutcome.TheVariants as over
use Rattle.cad_run_outcomes.specs.declared.outcome.TransactionOutcome.{TransactionOutcome}
use Rattle.cad_run_outcomes.specs.declared.outcome.TransactionOutcome.TheVariants as own

abbrev pub event_items : List Data → Items
event_items [] = no_items
event_items (json ∷ all) = item json (event_items all)

-- a receipt is this reply: identities, and the compact JSON of all events
abbrev pub IsReceipt : Receipt → Reply Data → Type 0
IsReceipt x a = (events : List Data) × (a ≡ ran x.made x.destroyed events) × (x.events ≡ compact_text (array (event_items events)))

abbrev pub Tells : TransactionOutcome → Outcome → Type 0
Tells (own.Stays reply) (stays a) = script.Tells reply a
Tells (own.Leads receipt new) (leads a v) = IsReceipt receipt a × (world_of new ≡ v)
Tells _ _ = ⊥

-- the same, where the accounts that aren't known are as they are among these
abbrev pub TellsOver : List Account → RunOutcome → Outcome → Type 0
TellsOver base (over.Stays reply) (stays a) = script.Tells reply a
TellsOver base (over.Leads receipt new) (leads a v) = IsReceipt receipt a × (run_world base new ≡ v)
TellsOver base _ _ = ⊥
