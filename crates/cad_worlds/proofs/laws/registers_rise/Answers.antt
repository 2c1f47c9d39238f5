use Rattle.cad_worlds.proofs.Rising.{registers_rise_lem}
use Rattle.cad_worlds.proofs.laws.registers_rise.Goals as goal

pub returns : goal.returns
returns c = registers_rise_lem
