use Rattle.std.proofs.Common.{refl, arith, ◌≤◌, length}
use Rattle.std.proofs.lemmas.Result.{IfOk-weaker}
use Rattle.cad_runs.specs.Commands.{bad}
use Rattle.cad_answers.specs.Answer.{too_long}
use Rattle.cad_serve_parts.specs.Held.{longest}
use Rattle.cad_answers.proofs.Readies.{answers_line}
use Rattle.cad_serve.proofs.generating.run_line.Goals as goal

pub returns-then-long-clause-reply : goal.returns-then-long-clause-reply
returns-then-long-clause-reply g c = λ w is_w. (bad 27, w, too_long (omega arith), refl, is_w)

pub keep-requires-clause-settled : goal.keep-requires-clause-settled
keep-requires-clause-settled g c = (c.requires.sound.0, c.args.line.now, c.in_ok-settled.ensures.settled c.requires.sound.0 c.requires.sound.1)

pub keep-requires-clause-on : goal.keep-requires-clause-on
keep-requires-clause-on g c = λ tell. c.settle.ensures.on (g.H.Host.trace c.args.host.now) (c.requires.on tell)

pub returns-clause-reply : goal.returns-clause-reply
returns-clause-reply g c =
    let short : length c.args.line.now ≤ longest = omega arith in
    IfOk-weaker c.keep.result _ _
    (λ reply f w is_w.
    let k = f w c.args.line.now (c.in_ok-settled.ensures.settled w is_w) in
    (k.0, k.1, answers_line w c.args.line.now k.0 k.1 short k.2, k.3, k.4))
    c.keep.ensures.reply
