use Rattle.cad_calls.proofs.apart.enter.Goals as goal

pub returns : goal.returns
returns c = c.enter.ensures
