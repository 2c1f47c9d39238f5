use Rattle.std.proofs.Common.{◌+◌, add-one, arith}
use Rattle.cad_worlds.proofs.KnownPlaces.{order_turn, order_end}
use Rattle.cad_worlds.specs.Code.KnownRegisters.{StandBetween}
use Rattle.cad_worlds.proofs.keys.are_in_order.Goals as goal

pub loop-one-preserved : goal.loop-one-preserved
loop-one-preserved c =
    rw (add-one c.loop-one.one-index) (order_turn c.args.known.now c.loop-one.one-index c.args.count c.loop-one.least (c.one-item.result.index + 1) c.one-item.result (StandBetween 0 c.args.count c.args.known.now) c.loop-one-test.true c.one-item.is (omega arith) (omega arith) (omega arith) c.loop-one.invariant)

pub returns : goal.returns
returns c so =
    order_end c.args.known.now c.loop-one.one-index c.args.count c.loop-one.least (StandBetween 0 c.args.count c.args.known.now) (omega arith) c.loop-one.invariant
