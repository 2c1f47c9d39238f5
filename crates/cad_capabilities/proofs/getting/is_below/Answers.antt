use Rattle.cad_capabilities.proofs.getting.is_below.Goals as goal

pub returns-in-Ok : goal.returns-in-Ok
returns-in-Ok c = λ w. c.in-Ok.ensures.told w
