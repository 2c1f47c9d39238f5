use Rattle.cad_mark_laws.proofs.Transactions.{transactions_marked}
use Rattle.cad_mark_laws.proofs.laws.transactions_have_marks.Goals as goal

pub returns : goal.returns
returns c = transactions_marked
