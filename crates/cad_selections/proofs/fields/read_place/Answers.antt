use Rattle.cad_selections.proofs.fields.read_place.Goals as goal

pub returns-in-Some : goal.returns-in-Some
returns-in-Some c = rw c.in-Some.is c.read_part.ensures
