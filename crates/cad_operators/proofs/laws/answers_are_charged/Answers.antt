use Rattle.cad_operators.proofs.Charges.{charged}
use Rattle.cad_operators.proofs.laws.answers_are_charged.Goals as goal

pub returns : goal.returns
returns c = charged
