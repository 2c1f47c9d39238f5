use Rattle.cad_receivers.proofs.looks.look.Goals as goal

pub returns-in-Standing : goal.returns-in-Standing
returns-in-Standing c = rw c.in-Standing.is c.spot_at.ensures

pub returns-in-Through : goal.returns-in-Through
returns-in-Through c = rw c.in-Through.is c.deref.ensures

pub returns-in-Absent : goal.returns-in-Absent
returns-in-Absent c = rw c.in-Absent.is (c.nil_spot.ensures c.args.state.now)
