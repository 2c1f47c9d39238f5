use Rattle.cad_selections.proofs.readings.read_out.Goals as goal

pub returns-in-Link : goal.returns-in-Link
returns-in-Link c = rw c.in-Link.is c.link_to.ensures
