use Rattle.cadence_check.specs.Verdicts.{contract_accepted, contract_refused}
use Rattle.cadence_check.proofs.judge.contract_verdict.Goals as goal

pub returns-in-Ok : goal.returns-in-Ok
returns-in-Ok c = contract_accepted (rw c.in-Ok.is at c.in_ok-checked.ensures)

pub returns-in-Err : goal.returns-in-Err
returns-in-Err c = contract_refused (rw c.in-Err.is at c.in_ok-checked.ensures)
