use Rattle.std.proofs.Common.{refl, arith, add-one}
use Rattle.cad_world_registers.proofs.Listed.{rise_turn, rise_fails, rise_end, fit_turn, fit_end}
use Rattle.cad_world_registers.proofs.rising.last_key.Goals as goal

pub loop-row-init : goal.loop-row-init
loop-row-init c = record { rise = λ behind. refl; fit = λ fits. fits }

pub loop-row-preserved : goal.loop-row-preserved
loop-row-preserved c =
    let rows = c.args.rows.now in
    let i = c.loop-row.row-index in
    let row = c.row-item.result in
    rw add-one (record {
      rise = rise_turn rows i row c.args.key.now c.loop-row.last.now c.key_of-next.result.now c.is_before.result c.loop-row-test.true c.row-item.is c.key_of-next.ensures.is c.is_before.ensures c.if-not-is_before.false c.loop-row.invariant.rise;
      fit = fit_turn rows i row c.loop-row-test.true c.row-item.is c.key_of-next.ensures.fits c.loop-row.invariant.fit;
    })

pub returns-then-not-is_before-clause-rise : goal.returns-then-not-is_before-clause-rise
returns-then-not-is_before-clause-rise c =
    rise_fails c.args.rows.now c.loop-row.row-index c.row-item.result c.args.key.now c.loop-row.last.now c.key_of-next.result.now c.is_before.result c.loop-row-test.true c.row-item.is c.key_of-next.ensures.is c.is_before.ensures c.if-not-is_before.true c.loop-row.invariant.rise

pub returns-clause-rise : goal.returns-clause-rise
returns-clause-rise c = rise_end c.args.rows.now c.loop-row.row-index c.args.key.now c.loop-row.last.now (omega arith) c.loop-row.invariant.rise

pub returns-clause-fit : goal.returns-clause-fit
returns-clause-fit c = fit_end c.args.rows.now c.loop-row.row-index (omega arith) c.loop-row.invariant.fit
