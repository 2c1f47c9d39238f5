use Rattle.cad_expression_leaves.proofs.values.dictionary_of.Goals as goal

pub returns-in-Ok : goal.returns-in-Ok
returns-in-Ok c = rw (← c.in-Ok.ensures.0, ← c.in-Ok.ensures.1) c.dictionary.ensures
