use Rattle.std.proofs.Common.{map, arith, refl}
use Rattle.serde_json.specs.View.{view}
use Rattle.cad_runs.specs.Commands.{failed}
use Rattle.cad_run_worlds.proofs.ArgumentLaws.{distinct_of}
use Rattle.cad_state.specs.Views.{program_of}
use Rattle.cad_run_outcomes.proofs.Results.{if_ok, refused_with}
use Rattle.cad_run_outcomes.specs.Outcomes.{stays}
use Rattle.cad_worlds.specs.Standing.{world_of}
use Rattle.cad_replies.proofs.DeploymentComing.{IsOutcome, failed_apart, row_found, row_missing}
use Rattle.cad_replies.specs.Deployments.{unfit, runs}
use Rattle.cad_replies.proofs.deployment.outcome_of_arguments.Goals as goal

pub returns-in-Ok-Some : goal.returns-in-Ok-Some
returns-in-Ok-Some g c =
    let distinct = distinct_of c.deref.result.now c.args.checked.now.value c.deref.ensures c.in-Ok-Some.ensures.distinct in
    let row = row_found c.deref.result.now c.args.checked.now.value c.args.id (map view c.args.arguments.now) c.in-Ok-Some.field-0 c.in-Ok-Some.row c.deref.ensures c.in-Ok-Some.field-0-is c.in-Ok-Some.ensures.row in
    if_ok c.outcome_of_row.result (λ it h. (h.0, runs c.requires.named distinct row h.1, h.2, h.3)) c.outcome_of_row.ensures

pub returns-in-Ok-None : goal.returns-in-Ok-None
returns-in-Ok-None g c =
    refused_with (IsOutcome (g.E.FrontEnd.front c.args.end.now) (world_of c.args.world) (program_of c.args.checked.now.value) c.args.id c.args.code (map view c.args.arguments.now) c.args.limit) c.fail.result _ c.fail.ensures (
      stays (failed 125),
      unfit c.requires.named (row_missing c.deref.result.now c.args.checked.now.value c.args.id (map view c.args.arguments.now) c.in-Ok-None.field-0 c.deref.ensures c.in-Ok-None.field-0-is c.in-Ok-None.ensures.row),
      failed_apart 125 0 (λ e. omega (arith, e)),
      refl,
    )
