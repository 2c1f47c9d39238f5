use Rattle.std.proofs.Common.{map, arith, refl, sym, ◌∙◌}
use Rattle.serde_json.specs.View.{view}
use Rattle.cad_runs.specs.Commands.{bad}
use Rattle.cad_run_worlds.proofs.ArgumentLaws.{counts_differ}
use Rattle.cad_state.specs.Views.{program_of}
use Rattle.cad_run_outcomes.proofs.Results.{refused_with}
use Rattle.cad_replies.proofs.TransactionComing.{IsOutcome}
use Rattle.cad_run_outcomes.specs.Outcomes.{stays}
use Rattle.cad_replies.specs.Transactions.{unsigned, miscounted}
use Rattle.cad_replies.proofs.transaction.outcome_of_transaction.Goals as goal

pub returns-then-not-are_signers : goal.returns-then-not-are_signers
returns-then-not-are_signers g c =
    λ w over sound. refused_with (IsOutcome (g.E.FrontEnd.front c.args.end.now) w (program_of c.args.checked.now.value) (map view c.args.arguments.now) c.args.signers.now c.args.limit) c.refuse.result _ c.refuse.ensures
    (stays (bad 26), unsigned c.requires.is (sym (c.are_signers.ensures w over) ∙ c.if-not-are_signers.true), λ e. cc e, refl)

pub returns-then-arguments-len : goal.returns-then-arguments-len
returns-then-arguments-len g c =
    λ w over sound. refused_with (IsOutcome (g.E.FrontEnd.front c.args.end.now) w (program_of c.args.checked.now.value) (map view c.args.arguments.now) c.args.signers.now c.args.limit) c.refuse-then-arguments-len.result _ c.refuse-then-arguments-len.ensures (
      stays (bad 25),
      miscounted c.requires.is (sym (c.are_signers.ensures w over) ∙ c.if-not-are_signers.false)
          (counts_differ c.args.arguments.now c.args.transaction.now.parameters.items (λ e. omega (arith, e, c.args.transaction.now.parameters.ok.0, c.len.ensures))),
      λ e. cc e,
      refl,
    )

pub outcome_of_arguments-requires-clause-counted : goal.outcome_of_arguments-requires-clause-counted
outcome_of_arguments-requires-clause-counted g c = omega (arith, c.args.transaction.now.parameters.ok.0, c.len.ensures)

pub returns : goal.returns
returns g c = λ w over sound. c.outcome_of_arguments.ensures w over sound (sym (c.are_signers.ensures w over) ∙ c.if-not-are_signers.false)
