use Rattle.cad_check.proofs.Acceptances.{one_acceptance}
use Rattle.cad_check.proofs.laws.one_acceptance.Goals as goal

pub returns : goal.returns
returns c = one_acceptance c.one_program.ensures.parsed
