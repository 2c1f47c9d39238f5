use Rattle.cad_table_laws.proofs.Same.{imports_enough}
use Rattle.cad_table_laws.proofs.laws.imports_are_enough.Goals as goal

pub returns : goal.returns
returns c = imports_enough
