use Rattle.cad_syntax.specs.Kinds.{greatest}
use Rattle.cad_operators.proofs.Kept.{from_magnitude, given}
use Rattle.cad_operators.proofs.numbers.greatest.Goals as goal

pub returns : goal.returns
returns c = λ s. given _ c.greatest.result _ s (from_magnitude c.args.kind (greatest c.args.kind) c.greatest.result c.greatest.ensures.value c.greatest.ensures.kind) c.number_tree.ensures
