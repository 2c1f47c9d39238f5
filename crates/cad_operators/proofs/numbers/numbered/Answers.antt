use Rattle.cad_operators.proofs.Kept.{numbered_ok}
use Rattle.cad_operators.proofs.numbers.numbered.Goals as goal

pub returns-in-Ok : goal.returns-in-Ok
returns-in-Ok c = numbered_ok c.args.number c.in-Ok.x _ c.in-Ok.is c.number_tree.ensures
