use Rattle.std.proofs.Common.{refl}
use Rattle.cad_run_outcomes.proofs.left.outcome_of_left.Goals as goal

pub returns : goal.returns
returns c = λ base all told. ((all, refl, told), refl)
