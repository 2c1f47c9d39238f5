use Rattle.cad_operators.proofs.Kept.{number_alone}
use Rattle.cad_operators.proofs.pairs.number_of.Goals as goal

pub returns-in-Ok : goal.returns-in-Ok
returns-in-Ok c = number_alone c.args.number c.in-Ok.n c.in-Ok.is
