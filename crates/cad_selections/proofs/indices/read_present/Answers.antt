use Rattle.std.proofs.Common.{refl}
use Rattle.cad_selections.proofs.indices.read_present.Goals as goal

pub returns-then-is_lent : goal.returns-then-is_lent
returns-then-is_lent c = λ s. rw (c.if-is_lent.true, ← c.optionals.ensures) refl

pub returns-else-is_lent : goal.returns-else-is_lent
returns-else-is_lent c = rw c.if-is_lent.false c.copy_of.ensures
