use Rattle.cad_declarations.specs.Typed.{arguments_of}
use Rattle.cad_declarations.specs.Views.{argument_of}
use Rattle.cad_statement_leaves.proofs.PlainLaws.{first_emit_err, first_emit_ok}
use Rattle.std.proofs.Common.{map}
use Rattle.cad_execution.proofs.plain.first_emit.Goals as goal

pub returns-in-Ok : goal.returns-in-Ok
returns-in-Ok g c =
    first_emit_ok (g.C.Callees.front c.args.callees.now) (g.C.Callees.calls c.args.callees.now) c.args.event.now (arguments_of (map argument_of c.args.arguments.now)) c.args.state.now c.tick.new.self c.emit_event.new.state c.emit_event.result c.in-Ok.ensures c.emit_event.ensures

pub returns-in-Err : goal.returns-in-Err
returns-in-Err g c =
    first_emit_err (g.C.Callees.front c.args.callees.now) (g.C.Callees.calls c.args.callees.now) c.args.event.now (arguments_of (map argument_of c.args.arguments.now)) c.args.state.now c.in-Err.stop c.in-Err.ensures
