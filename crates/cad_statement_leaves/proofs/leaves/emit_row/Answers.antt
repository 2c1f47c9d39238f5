use Rattle.cad_rows.specs.Views.{pure_row}
use Rattle.cad_statement_leaves.proofs.PartLaws.{emit_row_err, emit_row_ok}
use Rattle.cad_statement_leaves.proofs.leaves.emit_row.Goals as goal

pub returns-in-Ok : goal.returns-in-Ok
returns-in-Ok c =
    emit_row_ok c.args.id.now (pure_row c.args.row.items) c.in-Ok.made c.args.state.now c.event_value.new.state c.emit.new.state c.emit.result c.in-Ok.ensures c.emit.ensures

pub returns-in-Err : goal.returns-in-Err
returns-in-Err c =
    emit_row_err c.args.id.now (pure_row c.args.row.items) c.args.state.now c.in-Err.stop c.in-Err.ensures
