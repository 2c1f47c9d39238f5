use Rattle.cad_serve_parts.specs.Lines.{is_command}
use Rattle.cad_serve.proofs.Tellings.{is_blank_line, is_command_line, blank_said, command_said, command_stops}
use Rattle.cad_serve.proofs.serving.say.Goals as goal

pub returns-then-line-clause-said : goal.returns-then-line-clause-said
returns-then-line-clause-said g c = λ tell base pending h w is_w.
    blank_said base (is_command pending) w pending (g.H.Host.trace c.args.host.now) c.args.store.now (is_blank_line c.args.line.now pending h c.if-line.true) is_w (c.requires.on tell)

pub returns-clause-said : goal.returns-clause-said
returns-clause-said g c = λ tell base pending h w is_w.
    command_said c.answer.result base (is_command pending) w pending (g.H.Host.trace c.args.host.now) (g.H.Host.trace c.answer.new.host) c.answer.new.store (is_command_line c.args.line.now pending h c.if-line.false) (c.answer.ensures.said tell base pending h w is_w)

pub returns-clause-stops : goal.returns-clause-stops
returns-clause-stops g c = λ tell base pending h w is_w.
    command_stops c.answer.result base (is_command pending) w pending (g.H.Host.trace c.args.host.now) (g.H.Host.trace c.answer.new.host) (is_command_line c.args.line.now pending h c.if-line.false) (c.answer.ensures.stops tell base pending h w is_w)
