use Rattle.cad_declarations.specs.Views.{term_of}
use Rattle.cad_statement_leaves.proofs.PlainLaws.{expression_err, expression_ok}
use Rattle.cad_execution.proofs.plain.expression.Goals as goal

pub returns-in-Ok : goal.returns-in-Ok
returns-in-Ok g c =
    λ at n. expression_ok (g.C.Callees.front c.args.callees.now) (g.C.Callees.calls c.args.callees.now) at n (term_of c.args.value.now) c.in-Ok.tree c.args.state.now c.first_value.new.state c.let_go.result c.next.result c.in-Ok.ensures c.let_go.ensures c.next.ensures

pub returns-in-Err : goal.returns-in-Err
returns-in-Err g c =
    λ at n. expression_err (g.C.Callees.front c.args.callees.now) (g.C.Callees.calls c.args.callees.now) at n (term_of c.args.value.now) c.args.state.now c.in-Err.stop c.in-Err.ensures
