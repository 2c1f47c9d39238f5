use Rattle.std.proofs.Common.{refl, false}
use Rattle.cad_syntax.specs.declared.kind.Kind.TheVariants as k
use Rattle.cad_operators.proofs.Kept.{number_as}
use Rattle.cad_text_operators.proofs.bytes.byte_number.Goals as goal

pub returns : goal.returns
returns c = number_as k.UInt8 false c.args.byte _ refl refl c.from.ensures
