use Rattle.cad_installations.proofs.Ends.{told_same}
use Rattle.cad_installations.proofs.kinds.kinds_with.Goals as goal

pub returns-in-Ok-clause-state : goal.returns-in-Ok-clause-state
returns-in-Ok-clause-state c = told_same c.args.state.now c.take_last.new.state c.push.new.self c.args.contract c.take_last.result c.in-Ok.ensures.items c.take_last.ensures
