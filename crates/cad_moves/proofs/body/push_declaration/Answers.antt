use Rattle.cad_moves.specs.Views.{declares, named}
use Rattle.cad_moves.proofs.Turns.{push_step}
use Rattle.cad_moves.proofs.body.push_declaration.Goals as goal

pub returns : goal.returns
returns c = λ rest. push_step c.args.items.now.items c.push.new.items.items c.in_ok-item.item (declares (named c.args.number c.args.name.now) c.args.at) rest c.in_ok-push.ensures c.in_ok-item.ensures
