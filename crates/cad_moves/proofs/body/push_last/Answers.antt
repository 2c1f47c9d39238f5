use Rattle.cad_moves.specs.Views.{last, body_of}
use Rattle.cad_moves.proofs.Turns.{push_step}
use Rattle.cad_moves.proofs.body.push_last.Goals as goal

pub returns : goal.returns
returns c = λ rest. push_step c.args.items.now.items c.push.new.items.items c.last_item.result (last (body_of c.args.body)) rest c.in_ok-push.ensures c.last_item.ensures
