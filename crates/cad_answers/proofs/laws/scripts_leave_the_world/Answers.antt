use Rattle.cad_answers.proofs.Leaving.{scripts_leave}
use Rattle.cad_answers.proofs.laws.scripts_leave_the_world.Goals as goal

pub returns : goal.returns
returns c = scripts_leave
