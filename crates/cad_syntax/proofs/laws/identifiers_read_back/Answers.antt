use Rattle.cad_syntax.proofs.DottedTexts.{type_text_injective}
use Rattle.cad_syntax.proofs.laws.identifiers_read_back.Goals as goal

pub returns : goal.returns
returns c = type_text_injective
