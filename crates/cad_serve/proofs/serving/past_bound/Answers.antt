use Rattle.std.proofs.Common.{◌≡◌, [], ◌++◌, take, Ok, ◌∙◌, ap, length, arith, sym, refl, subst}
use Rattle.cad_store.specs.Stores.{IsOn}
use Rattle.cad_serve.proofs.Saids.{on_took}
use Rattle.cad_serve.proofs.Runs.{bound_ends, ends_read, going_took, cause_as}
use Rattle.cad_serve.proofs.serving.past_bound.Goals as goal

pub returns-in-Err-clause-ends : goal.returns-in-Err-clause-ends
returns-in-Err-clause-ends g c tell w input base long going =
    ends_read c.args.line.now c.args.store.now w input (g.H.Host.left c.args.host.now) (g.H.Host.left c.take_some.new.host) base (g.H.Host.trace c.args.host.now) (g.H.Host.trace c.take_some.new.host)
    going.going (sym (c.in-Err.ensures.failed tell)) (c.in-Err.ensures.story tell)

pub finish-requires-clause-on : goal.finish-requires-clause-on
finish-requires-clause-on g c = λ tell.
    subst (λ m. IsOn m c.args.store.now) (sym (c.in-Ok-eq0.ensures.story tell)) (on_took (take c.in-Ok-eq0.field-0 c.take_some.new.buffer) (g.H.Host.trace c.args.host.now) c.args.store.now (c.requires.on tell))

pub returns-in-Ok-eq0-clause-ends : goal.returns-in-Ok-eq0-clause-ends
returns-in-Ok-eq0-clause-ends g c tell w input base long going =
    let zero : c.in-Ok-eq0.field-0 ≡ 0 = omega (arith, c.in-Ok-eq0.field-0-test) in
    let none : g.H.Host.left c.args.host.now ≡ [] = c.in-Ok-eq0.ensures.end tell (ap Ok zero) (omega arith) in
    let left : g.H.Host.left c.take_some.new.host ≡ [] = sym (c.in-Ok-eq0.ensures.bytes tell ∙ ap (λ n. take n c.take_some.new.buffer ++ g.H.Host.left c.take_some.new.host) zero) ∙ none in
    c.finish.ensures.ends tell w input base (omega (arith, long, ap length none)) left
    (going_took c.args.line.now c.args.store.now w input (g.H.Host.left c.args.host.now) [] (take c.in-Ok-eq0.field-0 c.take_some.new.buffer) base (g.H.Host.trace c.args.host.now) (g.H.Host.trace c.take_some.new.host) going (c.in-Ok-eq0.ensures.story tell) none)

pub returns-in-Ok-eq0-clause-cause : goal.returns-in-Ok-eq0-clause-cause
returns-in-Ok-eq0-clause-cause g c = cause_as c.finish.result _ _ _ _ _ _ _ _ _ c.in-Ok-eq0.ensures.cause c.take_some.ensures.output c.take_some.ensures.disk c.finish.ensures.cause

pub returns-in-Ok-clause-ends : goal.returns-in-Ok-clause-ends
returns-in-Ok-clause-ends g c tell w input base long going =
    bound_ends c.args.line.now c.args.store.now w input (g.H.Host.left c.args.host.now) (g.H.Host.left c.take_some.new.host) c.take_some.new.buffer base (g.H.Host.trace c.take_some.new.host) c.in-Ok.field-0
    (going_took c.args.line.now c.args.store.now w input (g.H.Host.left c.args.host.now) (g.H.Host.left c.args.host.now) (take c.in-Ok.field-0 c.take_some.new.buffer) base (g.H.Host.trace c.args.host.now) (g.H.Host.trace c.take_some.new.host) going (c.in-Ok.ensures.story tell) refl)
    long (c.in-Ok.ensures.bytes tell) c.in-Ok.ensures.count (omega arith) (omega arith)
