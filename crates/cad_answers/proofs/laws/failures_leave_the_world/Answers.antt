use Rattle.cad_answers.proofs.Leaving.{failures_leave}
use Rattle.cad_answers.proofs.laws.failures_leave_the_world.Goals as goal

pub returns : goal.returns
returns c = failures_leave
