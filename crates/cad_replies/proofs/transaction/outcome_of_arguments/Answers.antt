use Rattle.std.proofs.Common.{map, refl}
use Rattle.serde_json.specs.View.{view}
use Rattle.cad_runs.specs.Commands.{bad}
use Rattle.cad_run_worlds.proofs.ArgumentLaws.{row_found, row_missing, distinct_of, counts_agree}
use Rattle.cad_state.specs.Views.{program_of}
use Rattle.cad_run_outcomes.proofs.Results.{if_ok, refused_with}
use Rattle.cad_replies.proofs.TransactionComing.{IsOutcome}
use Rattle.cad_run_outcomes.specs.Outcomes.{stays}
use Rattle.cad_replies.specs.Transactions.{unfit, runs}
use Rattle.cad_replies.proofs.transaction.outcome_of_arguments.Goals as goal

pub returns-in-Ok-Some : goal.returns-in-Ok-Some
returns-in-Ok-Some g c = λ w over sound signed.
    let distinct = distinct_of c.deref.result.now c.args.checked.now.value c.deref.ensures c.in-Ok-Some.ensures.distinct in
    let row = row_found c.deref.result.now c.args.checked.now.value c.args.transaction.now.parameters.items c.as_slice.result.now (map view c.args.arguments.now) c.in-Ok-Some.field-0 c.in-Ok-Some.row c.deref.ensures c.as_slice.ensures.value c.in-Ok-Some.field-0-is c.in-Ok-Some.ensures.row in
    if_ok c.outcome_of_row.result (λ it h. (h.0, runs c.requires.is signed distinct row h.1, h.2, h.3)) (c.outcome_of_row.ensures w over sound)

pub returns-in-Ok-None : goal.returns-in-Ok-None
returns-in-Ok-None g c =
    λ w over sound signed. refused_with (IsOutcome (g.E.FrontEnd.front c.args.end.now) w (program_of c.args.checked.now.value) (map view c.args.arguments.now) c.args.signers.now c.args.limit) c.refuse.result _ c.refuse.ensures (
      stays (bad 24),
      unfit c.requires.is signed (counts_agree c.args.arguments.now c.args.transaction.now.parameters.items c.requires.counted)
          (row_missing c.deref.result.now c.args.checked.now.value c.args.transaction.now.parameters.items c.as_slice.result.now (map view c.args.arguments.now) c.in-Ok-None.field-0 c.deref.ensures c.as_slice.ensures.value c.in-Ok-None.field-0-is c.in-Ok-None.ensures.row),
      λ e. cc e,
      refl,
    )
