use Rattle.cad_standing.proofs.CastLaws.{casts_first}
use Rattle.cad_standing.proofs.laws.casts_come_first.Goals as goal

pub returns : goal.returns
returns c = casts_first
