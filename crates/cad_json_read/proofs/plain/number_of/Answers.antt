use Rattle.std.proofs.Common.{◌≡◌}
use Rattle.cad_json_read.proofs.Numbers.{decimal_is, no_decimal}
use Rattle.cad_json_read.proofs.plain.number_of.Goals as goal

pub returns-in_default : goal.returns-in_default
returns-in_default c = decimal_is c.args.kind c.args.text.now c.read_decimal.result c.in_default.not-Address c.read_decimal.ensures.value c.read_decimal.ensures.kind

pub returns-in-Address : goal.returns-in-Address
returns-in-Address c = rw c.in-Address.is (no_decimal c.args.text.now)
