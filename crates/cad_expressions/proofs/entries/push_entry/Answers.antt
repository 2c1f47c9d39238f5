use Rattle.cad_expression_leaves.proofs.Going.{goes_on, goes_stopped}
use Rattle.cad_expressions.proofs.entries.push_entry.Goals as goal

pub returns-in-Ok : goal.returns-in-Ok
returns-in-Ok g c = goes_on _ _ _ _ _ _ _ _ _ c.in-Ok.is c.push_under.ensures

pub returns-in-Err : goal.returns-in-Err
returns-in-Err g c = goes_stopped _ _ _ _ _ _ _ _ c.in-Err.is
