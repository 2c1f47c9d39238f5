use Rattle.cad_command_runs.proofs.DeploymentParts.{entry_goes, entry_stops}
use Rattle.cad_rows.specs.Views.{pure_row}
use Rattle.cad_state.specs.Views.{contract_of}
use Rattle.cad_command_runs.proofs.deploying.install_entry.Goals as goal

pub returns-in-Ok : goal.returns-in-Ok
returns-in-Ok g c = entry_goes (g.I.Initializers.calls c.args.by.now) (contract_of c.args.contract) (pure_row c.args.arguments.items) c.args.state.now c.tick.new.self c.install.new.state c.install.result c.in-Ok.ensures c.install.ensures

pub returns-in-Err : goal.returns-in-Err
returns-in-Err g c = entry_stops (g.I.Initializers.calls c.args.by.now) (contract_of c.args.contract) (pure_row c.args.arguments.items) c.args.state.now c.tick.new.self c.tick.new.self c.in-Err.stop c.in-Err.ensures
