use Rattle.cad_selections.proofs.indices.read_in_array.Goals as goal

pub returns-in-Some : goal.returns-in-Some
returns-in-Some c = rw (← c.in-Some.ensures) c.read_element.ensures
