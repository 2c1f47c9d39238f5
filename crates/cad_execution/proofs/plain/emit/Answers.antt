use Rattle.cad_declarations.specs.Typed.{arguments_of}
use Rattle.cad_declarations.specs.Views.{argument_of}
use Rattle.cad_statement_leaves.proofs.PlainLaws.{emitted_next}
use Rattle.std.proofs.Common.{map}
use Rattle.cad_execution.proofs.plain.emit.Goals as goal

pub returns : goal.returns
returns g c =
    λ at n. emitted_next (g.C.Callees.front c.args.callees.now) (g.C.Callees.calls c.args.callees.now) at n c.args.event.now (arguments_of (map argument_of c.args.arguments.now)) c.args.state.now c.first_emit.new.state c.first_emit.result c.next.result c.first_emit.ensures c.next.ensures
