use Rattle.cad_selections.proofs.indices.read_in_dictionary.Goals as goal

pub returns-in-Ok : goal.returns-in-Ok
returns-in-Ok c = rw (← c.in-Ok.ensures) c.read_under.ensures
