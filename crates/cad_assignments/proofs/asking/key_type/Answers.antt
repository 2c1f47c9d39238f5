use Rattle.cad_assignments.proofs.asking.key_type.Goals as goal

pub returns-in-Dictionary : goal.returns-in-Dictionary
returns-in-Dictionary c = rw c.in-Dictionary.is c.copy_type.ensures
