use Rattle.cad_acceptance.specs.Acceptance.{checked_of}
use Rattle.cadence_check.proofs.judge.next_beside.Goals as goal

pub returns-in_ok-beside-in-Ok : goal.returns-in_ok-beside-in-Ok
returns-in_ok-beside-in-Ok c = (checked_of c.in-Ok.checked, (rw c.in-Ok.is at c.in_ok-checked.ensures, c.in_ok-beside-in-Ok.ensures))

pub returns-in-Err : goal.returns-in-Err
returns-in-Err c = rw c.in-Err.is at c.in_ok-checked.ensures
