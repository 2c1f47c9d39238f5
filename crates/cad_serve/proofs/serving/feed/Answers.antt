use Rattle.std.proofs.Common.{◌∙◌, refl, subst, arith}
use Rattle.cad_serve.specs.Code.Ending.{StopCause}
use Rattle.cad_serve.proofs.Runs.{goes_none, goes_more, goes_all, stops_more}
use Rattle.cad_serve.proofs.serving.feed.Goals as goal

pub loop-byte-init : goal.loop-byte-init
loop-byte-init g c = (
  λ tell. goes_none c.args.line.now c.args.store.now (g.H.Host.trace c.args.host.now),
  refl,
  refl,
  λ tell. refl,
  refl,
  c.requires.sound,
  c.requires.on,
  refl,
  λ tell. refl,
)

pub returns-in-Err-clause-stops : goal.returns-in-Err-clause-stops
returns-in-Err-clause-stops g c tell =
    stops_more c.in-Err.stop c.args.line.now c.loop-byte.line c.args.store.now c.loop-byte.store c.args.bytes.now c.loop-byte.byte-index _ (g.H.Host.trace c.args.host.now) (g.H.Host.trace c.loop-byte.host) (g.H.Host.trace c.feed_byte.new.host)
    (omega arith) refl (c.loop-byte.invariant.0 tell) (c.in-Err.ensures.stops tell)

pub loop-byte-preserved : goal.loop-byte-preserved
loop-byte-preserved g c = (
  λ tell. goes_more c.args.line.now c.loop-byte.line c.feed_byte.new.line c.args.store.now c.loop-byte.store c.feed_byte.new.store c.args.bytes.now c.loop-byte.byte-index _ (g.H.Host.trace c.args.host.now) (g.H.Host.trace c.loop-byte.host) (g.H.Host.trace c.feed_byte.new.host)
      (omega arith) refl (c.loop-byte.invariant.0 tell) (c.in_default.ensures.goes tell),
  c.in_default.ensures.steady.0 ∙ c.loop-byte.invariant.1,
  c.in_default.ensures.steady.1 ∙ c.loop-byte.invariant.2,
  λ tell. c.feed_byte.ensures.left tell ∙ c.loop-byte.invariant.3 tell,
  c.feed_byte.ensures.input ∙ c.loop-byte.invariant.4,
  c.in_default.ensures.sound,
  c.in_default.ensures.on,
  c.feed_byte.ensures.room ∙ c.loop-byte.invariant.7,
  λ tell. c.in_default.ensures.takes tell ∙ c.loop-byte.invariant.8 tell,
)

pub returns-clause-goes : goal.returns-clause-goes
returns-clause-goes g c tell =
    goes_all c.args.line.now c.loop-byte.line c.args.store.now c.loop-byte.store c.args.bytes.now c.loop-byte.byte-index (g.H.Host.trace c.args.host.now) (g.H.Host.trace c.loop-byte.host)
    (omega arith) (c.loop-byte.invariant.0 tell)

pub returns-in-Err-clause-cause : goal.returns-in-Err-clause-cause
returns-in-Err-clause-cause g c =
    subst (λ o. StopCause c.in-Err.stop o (g.H.Host.output_faults c.feed_byte.new.host) (g.H.Host.disk_faults c.args.host.now) (g.H.Host.disk_faults c.feed_byte.new.host)) c.loop-byte.invariant.1
    (subst (λ d. StopCause c.in-Err.stop (g.H.Host.output_faults c.loop-byte.host) (g.H.Host.output_faults c.feed_byte.new.host) d (g.H.Host.disk_faults c.feed_byte.new.host)) c.loop-byte.invariant.2 c.in-Err.ensures.cause)
