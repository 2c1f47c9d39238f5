use Rattle.std.proofs.Common.{refl, arith, add-one}
use Rattle.cad_world_registers.proofs.Listed.{blocks_turn, blocks_fail, blocks_fit, blocks_risen, blocks_fitting}
use Rattle.cad_world_registers.proofs.rising.blocks_rise.Goals as goal

pub loop-block-init : goal.loop-block-init
loop-block-init c = record { rise = refl; fit = λ fits. fits }

pub loop-block-preserved : goal.loop-block-preserved
loop-block-preserved c =
    let blocks = c.args.blocks.now in
    let i = c.loop-block.block-index in
    rw add-one (record {
      rise = blocks_turn blocks i c.block-item.result c.rows.result.now c.loop-block-test.true c.block-item.is c.rows.ensures.rows c.args.key.now c.loop-block.last.now c.in-Some.next.now c.in-Some.ensures.rise c.loop-block.invariant.rise;
      fit = blocks_fit blocks i c.block-item.result c.rows.result.now c.loop-block-test.true c.block-item.is c.rows.ensures.rows c.in-Some.ensures.fit c.loop-block.invariant.fit;
    })

pub returns-in-None-clause-rise : goal.returns-in-None-clause-rise
returns-in-None-clause-rise c =
    blocks_fail c.args.blocks.now c.loop-block.block-index c.block-item.result c.rows.result.now c.loop-block-test.true c.block-item.is c.rows.ensures.rows c.args.key.now c.loop-block.last.now c.in-None.ensures.rise c.loop-block.invariant.rise

pub returns-clause-rise : goal.returns-clause-rise
returns-clause-rise c = blocks_risen c.args.blocks.now c.loop-block.block-index c.args.key.now c.loop-block.last.now (omega arith) c.loop-block.invariant.rise

pub returns-clause-fit : goal.returns-clause-fit
returns-clause-fit c t = blocks_fitting c.args.blocks.now c.loop-block.block-index (omega arith) c.loop-block.invariant.fit
