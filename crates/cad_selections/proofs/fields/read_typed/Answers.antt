use Rattle.cad_selections.proofs.fields.read_typed.Goals as goal

pub returns-in-Some : goal.returns-in-Some
returns-in-Some c = rw (← c.field_names.ensures, ← c.in-Some.ensures) c.read_place.ensures
