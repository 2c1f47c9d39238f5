use Rattle.cad_moves.specs.Views.{or_else, body_of}
use Rattle.cad_moves.proofs.Turns.{push_step}
use Rattle.cad_moves.proofs.body.push_or.Goals as goal

pub returns : goal.returns
returns c = λ rest. push_step c.args.items.now.items c.push.new.items.items c.or_item.result (or_else (body_of c.args.body)) rest c.in_ok-push.ensures c.or_item.ensures
