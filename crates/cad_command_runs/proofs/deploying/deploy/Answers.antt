use Rattle.cad_command_runs.proofs.DeploymentParts.{deploy_goes, deploy_stops}
use Rattle.cad_rows.specs.Views.{pure_row}
use Rattle.cad_state.specs.Views.{contract_of}
use Rattle.cad_command_runs.proofs.deploying.deploy.Goals as goal

pub returns-in-Ok : goal.returns-in-Ok
returns-in-Ok g c = deploy_goes (g.I.Initializers.calls c.args.by.now) (contract_of c.args.contract) (pure_row c.args.arguments.items) c.in-Ok.tree c.args.state.now c.install_entry.new.state c.end_deploy.new.state c.end_deploy.result c.in-Ok.ensures c.end_deploy.ensures

pub returns-in-Err : goal.returns-in-Err
returns-in-Err g c = deploy_stops (g.I.Initializers.calls c.args.by.now) (contract_of c.args.contract) (pure_row c.args.arguments.items) c.args.state.now c.install_entry.new.state c.install_entry.new.state c.in-Err.stop c.in-Err.ensures
