use Rattle.cad_receivers.proofs.uses.aim_spot.Goals as goal

pub returns-in-Some-label : goal.returns-in-Some-label
returns-in-Some-label c = rw (← c.in-Some.ensures, c.in-Some-label.is) c.aim_at.ensures
