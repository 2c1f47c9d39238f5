use Rattle.cad_bounds.proofs.Extended.{scripts_extend}
use Rattle.cad_bounds.proofs.scripts_extend.Goals as goal

pub returns : goal.returns
returns c = scripts_extend
