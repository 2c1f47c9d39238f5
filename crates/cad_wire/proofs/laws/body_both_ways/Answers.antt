use Rattle.cad_wire.proofs.BodyLaws.{body_takes, body_again}
use Rattle.cad_wire.proofs.laws.body_both_ways.Goals as goal

pub returns-clause-again : goal.returns-clause-again
returns-clause-again c = body_again

pub returns-clause-found : goal.returns-clause-found
returns-clause-found c = body_takes
