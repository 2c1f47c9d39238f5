use Rattle.cad_operators.proofs.Kept.{from_integer, given}
use Rattle.cad_operators.proofs.numbers.least.Goals as goal

pub returns : goal.returns
returns c = λ s. given _ c.least.result _ s (from_integer c.args.kind _ c.least.result c.least.ensures.value c.least.ensures.kind) c.number_tree.ensures
