use Rattle.cad_declarations.specs.Typed.{arguments_of}
use Rattle.cad_declarations.specs.Views.{argument_of}
use Rattle.cad_statement_leaves.proofs.PartLaws.{emit_err, emit_ok}
use Rattle.std.proofs.Common.{map}
use Rattle.cad_execution.proofs.leaves.emit_event.Goals as goal

pub returns-in-Ok : goal.returns-in-Ok
returns-in-Ok g c =
    emit_ok (g.C.Callees.front c.args.callees.now) (g.C.Callees.calls c.args.callees.now) c.args.id.now (arguments_of (map argument_of c.args.arguments.now)) c.in-Ok.row c.args.state.now c.eval_arguments.new.state c.emit_row.new.state c.emit_row.result c.in-Ok.ensures c.emit_row.ensures

pub returns-in-Err : goal.returns-in-Err
returns-in-Err g c =
    emit_err (g.C.Callees.front c.args.callees.now) (g.C.Callees.calls c.args.callees.now) c.args.id.now (arguments_of (map argument_of c.args.arguments.now)) c.args.state.now c.in-Err.stop c.in-Err.ensures
