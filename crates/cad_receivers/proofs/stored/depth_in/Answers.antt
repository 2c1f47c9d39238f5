use Rattle.cad_receivers.proofs.stored.depth_in.Goals as goal

pub returns-in-Full : goal.returns-in-Full
returns-in-Full c = rw c.in-Full.is c.depth_of_type.ensures
