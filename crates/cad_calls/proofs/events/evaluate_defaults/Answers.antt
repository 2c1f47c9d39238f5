use Rattle.cad_declarations.specs.Views.{destroyed_of}
use Rattle.std.proofs.Common.{subst, map}
use Rattle.cad_declarations.specs.Typed.{arguments_of}
use Rattle.cad_declarations.specs.Views.{argument_of}
use Rattle.cad_evaluation.specs.Terms.{eval_arguments}
use Rattle.cad_execution.specs.Passed.{items_row}
use Rattle.cad_state.specs.Views.{FindsAndCarriesOut}
use Rattle.cad_calls.proofs.Telling.{row_err, row_ok}
use Rattle.cad_calls.proofs.events.evaluate_defaults.Goals as goal

pub returns-in-Ok : goal.returns-in-Ok
returns-in-Ok g c =
    row_ok (g.C.Callees.front c.args.callees.now) (g.C.Callees.calls c.args.callees.now) c.args.id.now c.args.label (destroyed_of c.args.destroyed.now) c.args.state.now c.look_in.new.state c.eval_arguments.new.state c.eval_arguments.result c.in-Ok.ensures
    (subst (λ l. FindsAndCarriesOut items_row (eval_arguments (g.C.Callees.front c.args.callees.now) (g.C.Callees.calls c.args.callees.now) (arguments_of (map argument_of l))) c.look_in.new.state c.eval_arguments.new.state c.eval_arguments.result) c.as_slice.ensures.value c.eval_arguments.ensures)

pub returns-in-Err : goal.returns-in-Err
returns-in-Err g c =
    row_err (g.C.Callees.front c.args.callees.now) (g.C.Callees.calls c.args.callees.now) c.args.id.now c.args.label (destroyed_of c.args.destroyed.now) c.args.state.now c.in-Err.stop c.in-Err.ensures
