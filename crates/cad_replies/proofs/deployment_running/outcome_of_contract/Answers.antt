use Rattle.std.proofs.Common.{IfOk, subst}
use Rattle.cad_declarations.specs.declared.program.Checked.{Checked}
use Rattle.cad_rows.specs.Views.{pure_row}
use Rattle.cad_state.specs.Views.{contract_of, program_of}
use Rattle.cad_worlds.specs.Standing.{world_of}
use Rattle.cad_replies.proofs.DeploymentComing.{RunsTo}
use Rattle.cad_replies.proofs.deployment_running.outcome_of_contract.Goals as goal

-- the copy of the Rc has the same program
pub returns-in-Ok : goal.returns-in-Ok
returns-in-Ok g c =
    let front = g.E.FrontEnd.front c.args.end.now in
    let w = world_of c.args.world in
    subst (λ (x : Checked). IfOk c.run_over.result (RunsTo front w (program_of x) (contract_of c.args.contract) (pure_row c.args.row.items) c.args.limit)) c.in-Ok.ensures
    (c.run_over.ensures c.requires.kept)
