use Rattle.cad_bounds.proofs.Extended.{transactions_extend}
use Rattle.cad_bounds.proofs.transactions_extend.Goals as goal

pub returns : goal.returns
returns c = transactions_extend
