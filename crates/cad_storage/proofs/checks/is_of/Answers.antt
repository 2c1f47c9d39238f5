use Rattle.cad_storage.proofs.checks.is_of.Goals as goal

pub returns-in-Some : goal.returns-in-Some
returns-in-Some c = rw c.in-Some.is c.is_below.ensures
