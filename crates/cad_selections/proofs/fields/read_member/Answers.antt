use Rattle.cad_selections.proofs.fields.read_member.Goals as goal

pub returns-in-Some : goal.returns-in-Some
returns-in-Some c = rw (← c.in-Some.ensures) c.read_typed.ensures
