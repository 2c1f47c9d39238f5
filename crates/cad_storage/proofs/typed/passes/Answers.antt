use Rattle.cad_storage.proofs.typed.passes.Goals as goal

pub returns-in-Some : goal.returns-in-Some
returns-in-Some c = rw c.in-Some.is c.check_own.ensures
