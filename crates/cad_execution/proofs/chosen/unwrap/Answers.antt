use Rattle.cad_declarations.specs.Views.{term_of}
use Rattle.cad_statement_leaves.proofs.ChoiceLaws.{unwrap_err, unwrap_ok}
use Rattle.cad_syntax.specs.Types.{pure_type}
use Rattle.cad_statement_leaves.specs.Code.Parts as parts
use Rattle.cad_execution.proofs.chosen.unwrap.Goals as goal

pub returns-in-Ok : goal.returns-in-Ok
returns-in-Ok g c =
    unwrap_ok (g.C.Callees.front c.args.callees.now) (g.C.Callees.calls c.args.callees.now) c.term_variable.result (parts.term_variable (term_of c.args.value.now.value)) (term_of c.args.value.now.value) (pure_type c.args.value.now.target) c.in-Ok.tree c.args.state.now c.first_come.new.state c.content_of.new.state c.content_of.result c.term_variable.ensures c.in-Ok.ensures c.content_of.ensures

pub returns-in-Err : goal.returns-in-Err
returns-in-Err g c =
    unwrap_err (g.C.Callees.front c.args.callees.now) (g.C.Callees.calls c.args.callees.now) (parts.term_variable (term_of c.args.value.now.value)) (term_of c.args.value.now.value) (pure_type c.args.value.now.target) c.args.state.now c.in-Err.stop c.in-Err.ensures
