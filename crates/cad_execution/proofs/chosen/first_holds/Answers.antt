use Rattle.cad_declarations.specs.Views.{term_of}
use Rattle.cad_statement_leaves.proofs.ChoiceLaws.{test_err, test_ticked}
use Rattle.cad_execution.proofs.chosen.first_holds.Goals as goal

pub returns-in-Ok : goal.returns-in-Ok
returns-in-Ok g c =
    test_ticked (g.C.Callees.front c.args.callees.now) (g.C.Callees.calls c.args.callees.now) (term_of c.args.test.now) c.args.state.now c.tick.new.self c.holds.new.state c.holds.result c.in-Ok.ensures c.holds.ensures

pub returns-in-Err : goal.returns-in-Err
returns-in-Err g c =
    test_err (g.C.Callees.front c.args.callees.now) (g.C.Callees.calls c.args.callees.now) (term_of c.args.test.now) c.args.state.now c.in-Err.stop c.in-Err.ensures
