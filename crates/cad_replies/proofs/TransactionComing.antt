-- What a transaction comes to, case by case.
use Rattle.std.proofs.Common.{◌≢◌, ℕ, List}
use Rattle.serde_json.specs.Data.{Data}
use Rattle.cad_syntax.specs.declared.address.Address.{Address}
use Rattle.cad_declarations.specs.Typed.{TransactionBody}
use Rattle.cad_runs.specs.Commands.{failed}
use Rattle.cad_world.specs.Fronts.{Front}
use Rattle.cad_world.specs.Rows.{Row}
use Rattle.cad_world.specs.State.{Program, World}
use Rattle.cad_run_outcomes.specs.Outcomes.{Outcome, stays}
use Rattle.cad_replies.specs.Transactions.{Comes, Ran}
use Rattle.cad_run_outcomes.specs.Views.{TellsOver}
use Rattle.cad_run_outcomes.specs.declared.outcome.RunOutcome.{RunOutcome}

-- what is told is what the program comes to
abbrev pub IsOutcome : Front → World → Program → List Data → List Address → ℕ → RunOutcome → Type 0
IsOutcome front w p all signers units it = (o : Outcome) × Comes front w p all signers units o × (o ≢ stays (failed 0)) × TellsOver w.accounts it o

-- what is told is what its run comes to
abbrev pub RunsTo : Front → World → Program → TransactionBody → Row → List Address → ℕ → RunOutcome → Type 0
RunsTo front w p t r signers units it = (o : Outcome) × Ran front w p t r signers units o × (o ≢ stays (failed 0)) × TellsOver w.accounts it o
