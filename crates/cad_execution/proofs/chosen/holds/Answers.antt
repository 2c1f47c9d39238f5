use Rattle.cad_declarations.specs.Views.{term_of}
use Rattle.cad_statement_leaves.proofs.ChoiceLaws.{holds_err, holds_ok, holds_told}
use Rattle.cad_execution.proofs.chosen.holds.Goals as goal

pub returns-in-Some : goal.returns-in-Some
returns-in-Some g c =
    holds_told (g.C.Callees.front c.args.callees.now) (g.C.Callees.calls c.args.callees.now) (term_of c.args.test.now) c.args.state.now c.in-Some.told (c.in-Some.ensures (g.C.Callees.front c.args.callees.now) (g.C.Callees.calls c.args.callees.now))

pub returns-in-Ok : goal.returns-in-Ok
returns-in-Ok g c =
    holds_ok (g.C.Callees.front c.args.callees.now) (g.C.Callees.calls c.args.callees.now) (term_of c.args.test.now) c.in-Ok.tree c.args.state.now c.eval.new.state c.truth.result c.in-Ok.ensures c.truth.ensures

pub returns-in-Err : goal.returns-in-Err
returns-in-Err g c =
    holds_err (g.C.Callees.front c.args.callees.now) (g.C.Callees.calls c.args.callees.now) (term_of c.args.test.now) c.args.state.now c.in-Err.stop c.in-Err.ensures
