use Rattle.std.proofs.Common.{◌++◌, take, length, ap, sym, subst, refl, ◌∙◌, arith, length-append, length-take}
use Rattle.cad_store.specs.Stores.{IsOn}
use Rattle.cad_serve.specs.Code.Ending.{StopCause}
use Rattle.cad_serve.proofs.Saids.{on_took}
use Rattle.cad_serve.proofs.Runs.{ends_read, halted_ends, going_as, going_took, all_taken, stop_cause}
use Rattle.cad_serve.proofs.serving.turn.Goals as goal

pub returns-in_default-clause-ends : goal.returns-in_default-clause-ends
returns-in_default-clause-ends g c tell w input base going =
    ends_read c.args.line.now c.args.store.now w input (g.H.Host.left c.args.host.now) (g.H.Host.left c.take_some.new.host) base (g.H.Host.trace c.args.host.now) (g.H.Host.trace c.take_some.new.host)
    going.going (sym (c.in_default.ensures.failed tell)) (c.in_default.ensures.story tell)

pub feed-requires-clause-on : goal.feed-requires-clause-on
feed-requires-clause-on g c = λ tell.
    subst (λ m. IsOn m c.args.store.now) (sym (c.in-Ok.ensures.story tell)) (on_took (take c.in-Ok.count c.take_some.new.buffer) (g.H.Host.trace c.args.host.now) c.args.store.now (c.requires.on tell))

pub returns-in-Err-clause-ends : goal.returns-in-Err-clause-ends
returns-in-Err-clause-ends g c tell w input base going =
    halted_ends c.in-Err.stop w input (g.H.Host.left c.feed.new.host) base (g.H.Host.trace c.feed.new.host)
    (c.in-Err.ensures.stops tell w input base (g.H.Host.left c.take_some.new.host)
    (going_took c.args.line.now c.args.store.now w input (g.H.Host.left c.args.host.now) (take c.in-Ok.count c.take_some.new.buffer ++ g.H.Host.left c.take_some.new.host) (take c.in-Ok.count c.take_some.new.buffer)
    base (g.H.Host.trace c.args.host.now) (g.H.Host.trace c.take_some.new.host) going (c.in-Ok.ensures.story tell) (c.in-Ok.ensures.bytes tell)))

pub returns-in-Err-clause-cause : goal.returns-in-Err-clause-cause
returns-in-Err-clause-cause g c =
    stop_cause c.in-Err.stop (g.H.Host.input_faults c.args.host.now) (g.H.Host.input_faults c.feed.new.host) (g.H.Host.output_faults c.args.host.now) (g.H.Host.output_faults c.feed.new.host) (g.H.Host.disk_faults c.args.host.now) (g.H.Host.disk_faults c.feed.new.host)
    (c.feed.ensures.input ∙ c.in-Ok.ensures.cause)
    (subst (λ o. StopCause c.in-Err.stop o (g.H.Host.output_faults c.feed.new.host) (g.H.Host.disk_faults c.args.host.now) (g.H.Host.disk_faults c.feed.new.host)) c.take_some.ensures.output
    (subst (λ d. StopCause c.in-Err.stop (g.H.Host.output_faults c.take_some.new.host) (g.H.Host.output_faults c.feed.new.host) d (g.H.Host.disk_faults c.feed.new.host)) c.take_some.ensures.disk c.in-Err.ensures.cause))

pub returns-clause-going : goal.returns-clause-going
returns-clause-going g c tell w input base going = record {
  going = going_as c.feed.new.line c.feed.new.store w input (g.H.Host.left c.take_some.new.host) (g.H.Host.left c.feed.new.host) base (g.H.Host.trace c.feed.new.host) (g.H.Host.trace c.feed.new.host) (sym (c.feed.ensures.left tell)) refl
      (c.in_default-feed.ensures.goes tell w input base (g.H.Host.left c.take_some.new.host)
      (going_took c.args.line.now c.args.store.now w input (g.H.Host.left c.args.host.now) (take c.in-Ok.count c.take_some.new.buffer ++ g.H.Host.left c.take_some.new.host) (take c.in-Ok.count c.take_some.new.buffer)
      base (g.H.Host.trace c.args.host.now) (g.H.Host.trace c.take_some.new.host) going (c.in-Ok.ensures.story tell) (c.in-Ok.ensures.bytes tell)));
  all_taken = all_taken input (g.H.Host.left c.args.host.now) (g.H.Host.left c.feed.new.host) (take c.in-Ok.count c.take_some.new.buffer) base (g.H.Host.trace c.args.host.now) (g.H.Host.trace c.take_some.new.host) (g.H.Host.trace c.feed.new.host)
      going.all_taken (c.in-Ok.ensures.story tell) (c.in-Ok.ensures.bytes tell ∙ ap (λ l. take c.in-Ok.count c.take_some.new.buffer ++ l) (sym (c.feed.ensures.left tell))) (c.in_default-feed.ensures.takes tell);
}

pub returns-clause-left : goal.returns-clause-left
returns-clause-left g c tell =
    omega (
      arith,
      ap length (c.in-Ok.ensures.bytes tell),
      length-append (take c.in-Ok.count c.take_some.new.buffer) (g.H.Host.left c.take_some.new.host),
      length-take c.in-Ok.count c.take_some.new.buffer,
      ap length (c.feed.ensures.left tell),
      c.in-Ok.ensures.count,
      c.requires.fits,
    )
