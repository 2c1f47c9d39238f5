use Rattle.cad_bounds.proofs.Extended.{joins_extend_the_second}
use Rattle.cad_bounds.proofs.joins_extend_the_second.Goals as goal

pub returns : goal.returns
returns c = joins_extend_the_second
