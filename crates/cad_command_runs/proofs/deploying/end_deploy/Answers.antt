use Rattle.cad_command_runs.proofs.DeploymentParts.{end_goes, end_stops}
use Rattle.cad_rows.specs.Views.{pure_tree}
use Rattle.cad_command_runs.proofs.deploying.end_deploy.Goals as goal

pub returns-in-Ok : goal.returns-in-Ok
returns-in-Ok c = end_goes (pure_tree c.args.tree) c.args.state.now c.args.state.now c.judge_stored.result c.in-Ok.ensures c.judge_stored.ensures

pub returns-in-Err : goal.returns-in-Err
returns-in-Err c = end_stops (pure_tree c.args.tree) c.args.state.now c.args.state.now c.in-Err.stop c.in-Err.ensures
