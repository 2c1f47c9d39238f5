use Rattle.cad_installations.proofs.installing.install.Goals as goal

pub returns-in-Ok : goal.returns-in-Ok
returns-in-Ok g c = c.install_as.ensures c.in-Ok.ensures.cases
