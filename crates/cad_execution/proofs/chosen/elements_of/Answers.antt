use Rattle.cad_declarations.specs.Views.{term_of}
use Rattle.cad_statement_leaves.proofs.ChoiceLaws.{elements_err, elements_ok}
use Rattle.cad_syntax.specs.Types.{pure_type}
use Rattle.cad_execution.proofs.chosen.elements_of.Goals as goal

pub returns-in-Ok : goal.returns-in-Ok
returns-in-Ok g c =
    elements_ok (g.C.Callees.front c.args.callees.now) (g.C.Callees.calls c.args.callees.now) (term_of c.args.array.now.value) (pure_type c.args.array.now.target) c.in-Ok.tree c.args.state.now c.first_come.new.state c.elements_in.result c.in-Ok.ensures c.elements_in.ensures

pub returns-in-Err : goal.returns-in-Err
returns-in-Err g c =
    elements_err (g.C.Callees.front c.args.callees.now) (g.C.Callees.calls c.args.callees.now) (term_of c.args.array.now.value) (pure_type c.args.array.now.target) c.args.state.now c.in-Err.stop c.in-Err.ensures
