use Rattle.cad_replies.proofs.TransactionUniqueness.{one_outcome}
use Rattle.cad_replies.proofs.laws.one_outcome.Goals as goal

pub returns : goal.returns
returns c = one_outcome
