use Rattle.cad_serve.proofs.Orders.{too_early}
use Rattle.cad_serve.proofs.laws.reply_before_commit.Goals as goal

pub returns : goal.returns
returns c = λ w v command a old later answers changes settled stands. too_early c.one_world.ensures w v command a old later (λ b x other. (c.one_reply.ensures w command b a x v other answers).1) changes settled stands
