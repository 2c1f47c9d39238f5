use Rattle.std.proofs.Common.{IfOk, subst}
use Rattle.cad_rows.specs.Views.{pure_row}
use Rattle.cad_state.specs.Views.{program_of}
use Rattle.cad_world.specs.State.{Contract}
use Rattle.cad_worlds.specs.Standing.{world_of}
use Rattle.cad_replies.proofs.DeploymentComing.{RunsTo}
use Rattle.cad_replies.proofs.deployment_running.outcome_of_row.Goals as goal

pub returns-in-Ok : goal.returns-in-Ok
returns-in-Ok g c =
    let front = g.E.FrontEnd.front c.args.end.now in
    let w = world_of c.args.world in
    subst (λ (x : Contract). IfOk c.outcome_of_contract.result (RunsTo front w (program_of c.args.checked.now.value) x (pure_row c.args.row.items) c.args.limit)) c.in-Ok.ensures
    c.outcome_of_contract.ensures
