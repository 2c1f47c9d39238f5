use Rattle.std.proofs.Common.{refl, false}
use Rattle.cad_syntax.specs.declared.kind.Kind.TheVariants as k
use Rattle.cad_operators.proofs.Kept.{number_as}
use Rattle.cad_capabilities.proofs.trees.unsigned_number.Goals as goal

pub returns : goal.returns
returns c = number_as k.UInt64 false c.args.n _ refl refl c.from.ensures
