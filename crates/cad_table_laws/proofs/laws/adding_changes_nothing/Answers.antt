use Rattle.cad_table_laws.proofs.Added.{added_aside}
use Rattle.cad_table_laws.proofs.laws.adding_changes_nothing.Goals as goal

pub returns : goal.returns
returns c = added_aside
