use Rattle.cad_installations.proofs.Running.{finishes_behind, install_stops}
use Rattle.cad_rows.specs.Views.{pure_row}
use Rattle.cad_state.specs.Views.{contract_of}
use Rattle.cad_installations.proofs.installing.install_as.Goals as goal

pub returns-in-Ok : goal.returns-in-Ok
returns-in-Ok g c is =
    finishes_behind (g.I.Initializers.calls c.args.by.now) (contract_of c.args.contract) c.args.id.now (pure_row c.args.arguments.items) c.args.state.now c.begin_and_run.new.state c.finish_contract.new.state c.finish_contract.result is (c.in-Ok.ensures is) c.finish_contract.ensures

pub returns-in-Err : goal.returns-in-Err
returns-in-Err g c is =
    install_stops (g.I.Initializers.calls c.args.by.now) (contract_of c.args.contract) (pure_row c.args.arguments.items) c.args.state.now c.begin_and_run.new.state c.begin_and_run.new.state c.in-Err.stop (c.in-Err.ensures is)
