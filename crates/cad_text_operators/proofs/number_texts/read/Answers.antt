use Rattle.cad_num.specs.Decimal.{read_of}
use Rattle.cad_text_operators.proofs.Numerals.{read_back}
use Rattle.cad_text_operators.proofs.number_texts.read.Goals as goal

pub returns : goal.returns
returns c = read_back c.args.kind c.read_decimal.result (read_of c.args.kind c.args.text.now) c.read_decimal.ensures.value c.read_decimal.ensures.kind
