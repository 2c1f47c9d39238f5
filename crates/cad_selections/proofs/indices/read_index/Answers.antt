use Rattle.cad_selections.proofs.indices.read_index.Goals as goal

pub returns-in-Some : goal.returns-in-Some
returns-in-Some c = rw (c.if-spot-ne0.false, c.in-Some.is) c.read_in.ensures
