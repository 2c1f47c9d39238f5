use Rattle.std.proofs.Common.{◌∙◌, sym, arith, add-one}
use Rattle.cad_world_registers.proofs.PartSteps.{none_so_far, stands_here, stands_nowhere}
use Rattle.cad_world_registers.proofs.part_draft.place_of.Goals as goal

pub returns-then-has_address : goal.returns-then-has_address
returns-then-has_address c = stands_here c.args.address c.args.known.now c.loop-i.i c.index-known-i.result c.loop-i-test.true c.index-known-i.is (sym c.has_address.ensures ∙ c.if-has_address.true) c.loop-i.invariant

pub loop-i-preserved : goal.loop-i-preserved
loop-i-preserved c =
    rw add-one (none_so_far c.args.address c.args.known.now c.loop-i.i c.index-known-i.result c.loop-i-test.true c.index-known-i.is (sym c.has_address.ensures ∙ c.if-has_address.false) c.loop-i.invariant)

pub returns : goal.returns
returns c = stands_nowhere c.args.address c.args.known.now c.loop-i.i (omega arith) c.loop-i.invariant
