use Rattle.cad_declarations.specs.Views.{term_of}
use Rattle.cad_calls.proofs.Laws.{kept_err, kept_ok}
use Rattle.cad_calls.proofs.conditions.keep_value.Goals as goal

pub returns-in-Ok : goal.returns-in-Ok
returns-in-Ok g c =
    kept_ok (g.C.Callees.front c.args.callees.now) (g.C.Callees.calls c.args.callees.now) (term_of c.args.value.now) c.in-Ok.tree c.args.state.now c.eval.new.state c.keep_before.new.state c.keep_before.result c.in-Ok.ensures c.keep_before.ensures

pub returns-in-Err : goal.returns-in-Err
returns-in-Err g c =
    kept_err (g.C.Callees.front c.args.callees.now) (g.C.Callees.calls c.args.callees.now) (term_of c.args.value.now) c.args.state.now c.in-Err.stop c.in-Err.ensures
