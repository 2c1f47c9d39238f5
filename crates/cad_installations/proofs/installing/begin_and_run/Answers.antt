use Rattle.cad_installations.proofs.Running.{runs_behind, begin_stops}
use Rattle.cad_rows.specs.Views.{pure_row}
use Rattle.cad_state.specs.Views.{contract_of}
use Rattle.cad_installations.proofs.installing.begin_and_run.Goals as goal

pub returns-in-Ok : goal.returns-in-Ok
returns-in-Ok g c is =
    runs_behind (g.I.Initializers.calls c.args.by.now) (contract_of c.args.contract) c.args.id.now (pure_row c.args.arguments.items) c.in-Ok.label c.args.state.now c.begin_contract.new.state c.initialize_contract.new.state c.initialize_contract.result is c.in-Ok.ensures c.initialize_contract.ensures

pub returns-in-Err : goal.returns-in-Err
returns-in-Err g c is =
    begin_stops (g.I.Initializers.calls c.args.by.now) (contract_of c.args.contract) (pure_row c.args.arguments.items) c.args.state.now c.begin_contract.new.state c.begin_contract.new.state c.in-Err.stop c.in-Err.ensures
