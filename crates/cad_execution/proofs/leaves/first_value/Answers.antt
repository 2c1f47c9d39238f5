use Rattle.cad_declarations.specs.Views.{term_of}
use Rattle.cad_statement_leaves.proofs.PartLaws.{first_value_err, first_value_ok}
use Rattle.cad_execution.proofs.leaves.first_value.Goals as goal

pub returns-in-Ok : goal.returns-in-Ok
returns-in-Ok g c =
    first_value_ok (g.C.Callees.front c.args.callees.now) (g.C.Callees.calls c.args.callees.now) (term_of c.args.value.now) c.args.state.now c.tick.new.self c.eval.new.state c.eval.result c.in-Ok.ensures c.eval.ensures

pub returns-in-Err : goal.returns-in-Err
returns-in-Err g c =
    first_value_err (g.C.Callees.front c.args.callees.now) (g.C.Callees.calls c.args.callees.now) (term_of c.args.value.now) c.args.state.now c.in-Err.stop c.in-Err.ensures
