use Rattle.cad_acceptance.proofs.Phases.{accepted_no_stop}
use Rattle.cad_acceptance.proofs.laws.accepted_programs_have_no_stop.Goals as goal

pub returns : goal.returns
returns c = accepted_no_stop
