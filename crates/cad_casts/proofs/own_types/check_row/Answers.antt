use Rattle.std.proofs.Common.{arith}
use Rattle.cad_casts.proofs.RowLaws.{row_ended, row_next, row_stopped}
use Rattle.cad_syntax.specs.Types.{pure_type}
use Rattle.cad_casts.proofs.own_types.check_row.Goals as goal

pub returns-in-Err : goal.returns-in-Err
returns-in-Err c =
    row_stopped (pure_type c.args.wanted.now) c.args.row.now c.loop-place.place-index c.place-item.result c.loop-place.state c.check_place.new.state c.args.state.now c.in-Err.stop
    c.loop-place-test.true c.place-item.is c.in-Err.ensures c.loop-place.invariant

pub loop-place-preserved : goal.loop-place-preserved
loop-place-preserved c =
    row_next (pure_type c.args.wanted.now) c.args.row.now c.loop-place.place-index _ c.place-item.result c.loop-place.state c.check_place.new.state c.args.state.now (omega arith)
    c.loop-place-test.true c.place-item.is c.in-Ok.ensures c.loop-place.invariant

pub returns : goal.returns
returns c = row_ended (pure_type c.args.wanted.now) c.args.row.now c.loop-place.place-index c.loop-place.state c.args.state.now (omega (arith, c.loop-place-test.false)) c.loop-place.invariant
