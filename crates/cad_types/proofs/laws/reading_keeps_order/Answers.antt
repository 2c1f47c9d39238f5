use Rattle.cad_types.proofs.Reading.{reading_keeps_order}
use Rattle.cad_types.proofs.laws.reading_keeps_order.Goals as goal

pub returns : goal.returns
returns c = reading_keeps_order
