use Rattle.cad_selections.proofs.indices.read_under.Goals as goal

pub returns-in-Ok : goal.returns-in-Ok
returns-in-Ok c = rw (← c.in-Ok.ensures) c.read_slot.ensures
