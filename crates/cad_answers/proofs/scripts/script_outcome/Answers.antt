use Rattle.cad_answers.specs.Answer.{replies, runs}
use Rattle.cad_answers.proofs.Comings.{stands_kept}
use Rattle.cad_answers.proofs.scripts.script_outcome.Goals as goal

pub returns : goal.returns
returns c = λ m code told accepted w stands.
    let h = c.in_ok-reply.ensures w (told w stands) (stands_kept m w stands) in
    (h.0, c.reply_of.ensures h.0 h.3, runs (replies (accepted w stands) c.requires.right h.1 h.2))
