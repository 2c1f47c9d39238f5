use Rattle.std.proofs.Common.{eq-eqb, ◌∷◌}
use Rattle.cad_serve.proofs.Runs.{goes_byte, goes_feed, stops_feed, memory_stops, other_byte}
use Rattle.cad_serve.proofs.serving.feed_byte.Goals as goal

pub returns-in-Err-clause-stops : goal.returns-in-Err-clause-stops
returns-in-Err-clause-stops g c tell more =
    stops_feed c.in-Err.stop c.args.line.now c.args.store.now c.args.byte more (g.H.Host.trace c.args.host.now) (g.H.Host.trace c.say.new.host) (eq-eqb c.args.byte 10 c.if-byte-eq10.true)
    (c.in-Err.ensures.stops tell)

pub returns-then-byte-eq10-clause-goes : goal.returns-then-byte-eq10-clause-goes
returns-then-byte-eq10-clause-goes g c tell =
    goes_feed c.args.line.now c.clear.new.self c.args.store.now c.say.new.store c.args.byte (g.H.Host.trace c.args.host.now) (g.H.Host.trace c.say.new.host) (eq-eqb c.args.byte 10 c.if-byte-eq10.true)
    c.clear.ensures (c.in_default.ensures.said tell)

pub returns-in-Ok-clause-goes : goal.returns-in-Ok-clause-goes
returns-in-Ok-clause-goes g c tell =
    goes_byte c.args.line.now c.push.new.self c.args.store.now c.args.byte (g.H.Host.trace c.args.host.now) (other_byte c.args.byte 10 c.if-byte-eq10.false) c.in-Ok.ensures

pub returns-in-Err-push-clause-stops : goal.returns-in-Err-push-clause-stops
returns-in-Err-push-clause-stops g c tell more = memory_stops c.args.line.now c.args.store.now (c.args.byte ∷ more) (g.H.Host.trace c.args.host.now)
