use Rattle.cad_selections.proofs.indices.read_entry.Goals as goal

pub returns-then-is_lent : goal.returns-then-is_lent
returns-then-is_lent c = rw (c.if-is_lent.true, ← c.optionals.ensures) c.link_to_entry.ensures

pub returns-else-is_lent : goal.returns-else-is_lent
returns-else-is_lent c = rw c.if-is_lent.false c.copy_inside.ensures
