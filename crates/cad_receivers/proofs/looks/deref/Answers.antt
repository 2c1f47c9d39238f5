use Rattle.cad_receivers.proofs.looks.deref.Goals as goal

pub returns-in-Link : goal.returns-in-Link
returns-in-Link c = rw c.in-Link.is c.spot_at.ensures
