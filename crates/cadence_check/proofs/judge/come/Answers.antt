use Rattle.std.specs.Prelude.{Some}
use Rattle.cad_tables.specs.Views.{contracts_of}
use Rattle.cadence_check.specs.Verdicts.{stops}
use Rattle.cadence_check.proofs.Told.{accepted_as, stopped_as}
use Rattle.cadence_check.proofs.judge.come.Goals as goal

pub returns-in-Ok : goal.returns-in-Ok
returns-in-Ok c =
    c.of_its_name.ensures (contracts_of c.args.deployed.now)
    (accepted_as (contracts_of c.args.deployed.now) (Some c.args.contract.now.address) c.as_bytes.result.now c.args.contract.now.code.now _ c.in-Ok.checked c.in-Ok.is
    c.as_bytes.ensures.value c.in_ok-checked.ensures)

pub returns-in-Err : goal.returns-in-Err
returns-in-Err c =
    stops
    (stopped_as (contracts_of c.args.deployed.now) (Some c.args.contract.now.address) c.as_bytes.result.now c.args.contract.now.code.now _ c.in-Err.rejected c.in-Err.is
    c.as_bytes.ensures.value c.in_ok-checked.ensures)
