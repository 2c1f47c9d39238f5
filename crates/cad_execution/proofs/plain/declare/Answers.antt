use Rattle.cad_declarations.specs.Views.{term_of, variable_of}
use Rattle.cad_statement_leaves.proofs.PlainLaws.{declare_err, declare_ok}
use Rattle.cad_execution.proofs.plain.declare.Goals as goal

pub returns-in-Ok : goal.returns-in-Ok
returns-in-Ok g c =
    λ at n. declare_ok (g.C.Callees.front c.args.callees.now) (g.C.Callees.calls c.args.callees.now) at n (variable_of c.args.variable.now) (term_of c.args.value.now) c.in-Ok.tree c.args.state.now c.first_come.new.state c.fill_variable.new.state c.fill_variable.result c.next.result c.in-Ok.ensures c.fill_variable.ensures c.next.ensures

pub returns-in-Err : goal.returns-in-Err
returns-in-Err g c =
    λ at n. declare_err (g.C.Callees.front c.args.callees.now) (g.C.Callees.calls c.args.callees.now) at n (variable_of c.args.variable.now) (term_of c.args.value.now) c.args.state.now c.in-Err.stop c.in-Err.ensures
