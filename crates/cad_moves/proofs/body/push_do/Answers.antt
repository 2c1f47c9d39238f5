use Rattle.cad_moves.specs.Views.{does, body_of}
use Rattle.cad_moves.proofs.Turns.{push_step}
use Rattle.cad_moves.proofs.body.push_do.Goals as goal

pub returns : goal.returns
returns c = λ rest. push_step c.args.items.now.items c.push.new.items.items c.do_item.result (does (body_of c.args.body)) rest c.in_ok-push.ensures c.do_item.ensures
