use Rattle.cad_text_operators.proofs.Numerals.{written_of_64_bits}
use Rattle.cad_text_operators.proofs.number_texts.of_64_bits.Goals as goal

pub returns-clause-text : goal.returns-clause-text
returns-clause-text c = written_of_64_bits c.args.x _ c.requires
