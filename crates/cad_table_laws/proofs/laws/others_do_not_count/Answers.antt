use Rattle.cad_table_laws.proofs.Same.{others_aside}
use Rattle.cad_table_laws.proofs.laws.others_do_not_count.Goals as goal

pub returns : goal.returns
returns c = others_aside
