use Rattle.cad_text_operators.proofs.Numerals.{read_some, read_none}
use Rattle.cad_text_operators.proofs.number_texts.read_address.Goals as goal

pub returns-in-Some : goal.returns-in-Some
returns-in-Some c = read_some c.args.text.now c.read_decimal.result c.in-Some.x c.as_address.result c.in-Some.is c.read_decimal.ensures.value c.as_address.ensures.kind c.as_address.ensures.value

pub returns-in-None : goal.returns-in-None
returns-in-None c = read_none c.args.text.now c.read_decimal.result c.in-None.is c.read_decimal.ensures.value
