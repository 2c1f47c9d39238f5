use Rattle.cad_types.proofs.Reading.{reading_is_plain}
use Rattle.cad_types.proofs.laws.reading_is_plain.Goals as goal

pub returns : goal.returns
returns c = reading_is_plain
