use Rattle.cad_installations.proofs.Added.{installs, memory_told}
use Rattle.cad_installations.specs.Code.Steps.{installed}
use Rattle.cad_rows.specs.Views.{pure_row}
use Rattle.cad_state.specs.Views.{contract_of}
use Rattle.cad_types.specs.Views.{declarations}
use Rattle.cad_installations.proofs.adding.install_contract.Goals as goal

pub returns-in-Ok : goal.returns-in-Ok
returns-in-Ok g c =
    installs (g.I.Initializers.calls c.args.by.now) (contract_of c.args.contract) (contract_of c.in-Ok.found.0) (declarations c.in-Ok.found.1) (pure_row c.args.row.items)
    c.args.state.now c.kinds_with.new.state c.fit_for-arguments.new.state c.install_on.new.state c.fit_for-arguments.result c.install_on.result
    c.in-Ok.ensures.contract c.in-Ok.ensures.kinds c.in-Ok.ensures.state c.fit_for-arguments.ensures c.install_on.ensures

pub returns-in-Err : goal.returns-in-Err
returns-in-Err g c = memory_told (installed (g.I.Initializers.calls c.args.by.now) (contract_of c.args.contract) (pure_row c.args.row.items)) c.args.state.now c.kinds_with.new.state c.in-Err.stop c.in-Err.ensures.memory
