use Rattle.cad_assignments.proofs.asking.element_type.Goals as goal

pub returns-in-Array : goal.returns-in-Array
returns-in-Array c = rw c.in-Array.is c.copy_type.ensures
