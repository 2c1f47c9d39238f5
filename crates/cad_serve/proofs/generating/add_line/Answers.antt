use Rattle.std.proofs.Common.{ap, ◌++◌, ◌∷◌, []}
use Rattle.cad_serve.proofs.Generatings.{ran_line, ran_as}
use Rattle.cad_serve.proofs.generating.add_line.Goals as goal

pub returns-clause-ran : goal.returns-clause-ran
returns-clause-ran g c = λ w before h.
    let k = c.in_ok-reply.ensures.reply h.world h.stands in
    ran_as w _ _ c.in_ok-more.more c.run_line.new.store (ap (λ l. before ++ l ∷ []) c.as_bytes.ensures)
    (ran_line w before c.as_bytes.result.now k.0 k.1 c.args.counts.now c.in_ok-more.more c.args.store.now c.run_line.new.store h k.2 (λ so. c.in_ok-more.ensures h.answers k.0 k.3 so) k.4)

pub returns-clause-sound : goal.returns-clause-sound
returns-clause-sound g c =
    let k = c.in_ok-reply.ensures.reply c.requires.sound.0 c.requires.sound.1 in
    (k.1, k.4)
