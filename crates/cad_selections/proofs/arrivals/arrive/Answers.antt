use Rattle.cad_selections.proofs.arrivals.arrive.Goals as goal

pub returns-in-Here : goal.returns-in-Here
returns-in-Here c = rw c.in-Here.is c.stand.ensures
