use Rattle.cad_replies.proofs.TransactionExtending.{outcomes_extend}
use Rattle.cad_replies.proofs.laws.outcomes_extend.Goals as goal

pub returns : goal.returns
returns c = outcomes_extend c.transactions_extend.ensures
