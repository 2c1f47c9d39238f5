use Rattle.cad_worlds.proofs.OneWorld.{rows_are_registers_lem}
use Rattle.cad_worlds.proofs.laws.rows_are_registers.Goals as goal

pub returns : goal.returns
returns c = rows_are_registers_lem
