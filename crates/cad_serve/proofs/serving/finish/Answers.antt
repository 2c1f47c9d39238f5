use Rattle.std.proofs.Common.{◌∙◌}
use Rattle.cad_serve.proofs.Runs.{ends_done, ends_halted, stop_cause}
use Rattle.cad_serve.proofs.serving.finish.Goals as goal

pub returns-in-Ok-clause-ends : goal.returns-in-Ok-clause-ends
returns-in-Ok-clause-ends g c tell w input base bound empty going =
    ends_done c.args.line.now c.args.store.now c.say.new.store w input (g.H.Host.left c.say.new.host) base (g.H.Host.trace c.args.host.now) (g.H.Host.trace c.say.new.host) going (c.say.ensures.left tell ∙ empty) bound (c.in-Ok.ensures.said tell)

pub returns-in-Err-clause-ends : goal.returns-in-Err-clause-ends
returns-in-Err-clause-ends g c tell w input base bound empty going =
    ends_halted c.in-Err.stop c.args.line.now c.args.store.now w input (g.H.Host.left c.say.new.host) base (g.H.Host.trace c.args.host.now) (g.H.Host.trace c.say.new.host) going (c.in-Err.ensures.stops tell)

pub returns-in-Err-clause-cause : goal.returns-in-Err-clause-cause
returns-in-Err-clause-cause g c =
    stop_cause c.in-Err.stop (g.H.Host.input_faults c.args.host.now) (g.H.Host.input_faults c.say.new.host) (g.H.Host.output_faults c.args.host.now) (g.H.Host.output_faults c.say.new.host) (g.H.Host.disk_faults c.args.host.now) (g.H.Host.disk_faults c.say.new.host)
    c.say.ensures.input c.in-Err.ensures.cause
