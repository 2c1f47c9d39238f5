use Rattle.std.proofs.Common.{map, ap, refl, sym, ◌∙◌}
use Rattle.std.specs.Prelude.{option_map}
use Rattle.serde_json.specs.View.{view}
use Rattle.cad_declarations.specs.Views.{transaction_of}
use Rattle.cad_declarations.specs.declared.program.Checked.{Checked}
use Rattle.cad_runs.specs.Commands.{bad}
use Rattle.cad_state.specs.Views.{program_of}
use Rattle.cad_run_outcomes.proofs.Results.{refused_with}
use Rattle.cad_replies.proofs.TransactionComing.{IsOutcome}
use Rattle.cad_run_outcomes.specs.Outcomes.{stays}
use Rattle.cad_replies.specs.Transactions.{no_transaction}
use Rattle.cad_replies.proofs.transaction.transact_over.Goals as goal

pub outcome_of_transaction-requires-clause-is : goal.outcome_of_transaction-requires-clause-is
outcome_of_transaction-requires-clause-is g c = ap (λ (x : Checked). (program_of x).bodies.transaction) (sym c.deref.ensures) ∙ ap (option_map transaction_of) c.in-Some.is

pub returns-in-None : goal.returns-in-None
returns-in-None g c =
    λ w over sound. refused_with (IsOutcome (g.E.FrontEnd.front c.args.end.now) w (program_of c.args.checked.now.value) (map view c.args.arguments.now) c.args.signers.now c.args.limit) c.refuse.result _ c.refuse.ensures
    (stays (bad 26), no_transaction (ap (λ (x : Checked). (program_of x).bodies.transaction) (sym c.deref.ensures) ∙ ap (option_map transaction_of) c.in-None.is), λ e. cc e, refl)
