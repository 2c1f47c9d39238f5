use Rattle.std.specs.Prelude.{None}
use Rattle.cad_tables.specs.Views.{contracts_of}
use Rattle.cadence_check.specs.Verdicts.{program_accepted, program_stops}
use Rattle.cadence_check.proofs.Told.{accepted_as, stopped_as}
use Rattle.cadence_check.proofs.judge.program_verdict.Goals as goal

pub returns-in-Ok : goal.returns-in-Ok
returns-in-Ok c =
    program_accepted
    (accepted_as (contracts_of c.args.deployed.now) None c.as_bytes.result.now c.args.code.now _ c.in-Ok.checked c.in-Ok.is c.as_bytes.ensures.value c.in_ok-checked.ensures)

pub returns-in-Err : goal.returns-in-Err
returns-in-Err c =
    program_stops
    (stopped_as (contracts_of c.args.deployed.now) None c.as_bytes.result.now c.args.code.now _ c.in-Err.rejected c.in-Err.is c.as_bytes.ensures.value c.in_ok-checked.ensures)
