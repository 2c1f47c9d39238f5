use Rattle.cad_declarations.specs.Views.{term_of}
use Rattle.cad_statement_leaves.proofs.PartLaws.{come_err, come_ok}
use Rattle.cad_syntax.specs.Types.{pure_type}
use Rattle.cad_execution.proofs.leaves.come.Goals as goal

pub returns-in-Ok : goal.returns-in-Ok
returns-in-Ok g c =
    come_ok (g.C.Callees.front c.args.callees.now) (g.C.Callees.calls c.args.callees.now) (term_of c.args.value.now) (pure_type c.args.target.now) c.in-Ok.tree c.args.state.now c.eval.new.state c.transfer.new.state c.transfer.result c.in-Ok.ensures c.transfer.ensures

pub returns-in-Err : goal.returns-in-Err
returns-in-Err g c =
    come_err (g.C.Callees.front c.args.callees.now) (g.C.Callees.calls c.args.callees.now) (term_of c.args.value.now) (pure_type c.args.target.now) c.args.state.now c.in-Err.stop c.in-Err.ensures
