use Rattle.cad_receivers.proofs.settle.settle_receiver.Goals as goal

pub returns-in-Standing : goal.returns-in-Standing
returns-in-Standing c = rw (c.in-Standing.is, ← c.lent_rights.ensures) c.settle_node.ensures

pub returns-in-Through : goal.returns-in-Through
returns-in-Through c = rw c.in-Through.is c.settle_reference.ensures
