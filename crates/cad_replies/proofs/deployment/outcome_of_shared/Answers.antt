use Rattle.std.proofs.Common.{map, arith, ap, refl, sym, ◌∙◌}
use Rattle.serde_json.specs.View.{view}
use Rattle.cad_declarations.specs.declared.program.Checked.{Checked}
use Rattle.cad_command_runs.specs.Passed.{is_contract_of}
use Rattle.cad_runs.specs.Commands.{failed}
use Rattle.cad_state.specs.Views.{program_of}
use Rattle.cad_run_outcomes.proofs.Results.{refused_with}
use Rattle.cad_run_outcomes.specs.Outcomes.{stays}
use Rattle.cad_worlds.specs.Standing.{world_of}
use Rattle.cad_replies.proofs.DeploymentComing.{IsOutcome, failed_apart}
use Rattle.cad_replies.specs.Deployments.{misnamed}
use Rattle.cad_replies.proofs.deployment.outcome_of_shared.Goals as goal

pub returns-then-not-is_contract_of : goal.returns-then-not-is_contract_of
returns-then-not-is_contract_of g c =
    refused_with (IsOutcome (g.E.FrontEnd.front c.args.end.now) (world_of c.args.world) (program_of c.args.checked.now.value) c.args.id c.args.code (map view c.args.arguments.now) c.args.limit) c.fail.result _ c.fail.ensures (
      stays (failed 120),
      misnamed (ap (λ (x : Checked). is_contract_of c.args.id (program_of x)) (sym c.deref.ensures) ∙ sym c.is_contract_of.ensures ∙ c.if-not-is_contract_of.true),
      failed_apart 120 0 (λ e. omega (arith, e)),
      refl,
    )

pub outcome_of_arguments-requires-clause-named : goal.outcome_of_arguments-requires-clause-named
outcome_of_arguments-requires-clause-named g c =
    ap (λ (x : Checked). is_contract_of c.args.id (program_of x)) (sym c.deref.ensures) ∙ sym c.is_contract_of.ensures ∙ c.if-not-is_contract_of.false
