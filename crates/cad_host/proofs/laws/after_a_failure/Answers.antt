use Rattle.cad_host.proofs.Images.{broke_write, broke_sync}
use Rattle.cad_host.proofs.laws.after_a_failure.Goals as goal

pub returns-clause-write : goal.returns-clause-write
returns-clause-write c = λ m t at bytes now disk. broke_write t at bytes now m disk

pub returns-clause-sync : goal.returns-clause-sync
returns-clause-sync c = λ m t now disk. broke_sync t now m disk
