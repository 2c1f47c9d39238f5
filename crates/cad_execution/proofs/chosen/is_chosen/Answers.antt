use Rattle.cad_declarations.specs.Views.{term_of}
use Rattle.cad_rows.specs.Views.{pure_tree}
use Rattle.cad_statement_leaves.proofs.ChoiceLaws.{chosen_err, chosen_ok}
use Rattle.cad_execution.proofs.chosen.is_chosen.Goals as goal

pub returns-in-Ok : goal.returns-in-Ok
returns-in-Ok g c =
    chosen_ok (g.C.Callees.front c.args.callees.now) (g.C.Callees.calls c.args.callees.now) c.args.nil c.is_free.result (pure_tree c.args.value.now) (term_of c.args.case.now) c.in-Ok.tree c.args.state.now c.eval.new.state c.is_case.new.state c.is_case.result c.is_free.ensures c.in-Ok.ensures c.is_case.ensures

pub returns-in-Err : goal.returns-in-Err
returns-in-Err g c =
    chosen_err (g.C.Callees.front c.args.callees.now) (g.C.Callees.calls c.args.callees.now) c.args.nil (pure_tree c.args.value.now) (term_of c.args.case.now) c.args.state.now c.in-Err.stop c.in-Err.ensures
