use Rattle.cad_table_laws.proofs.Reaching.{closed_from}
use Rattle.cad_table_laws.proofs.laws.reached_are_closed.Goals as goal

pub returns : goal.returns
returns c = λ links ids a b h k. closed_from links ids a h b k
