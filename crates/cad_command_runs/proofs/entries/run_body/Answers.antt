use Rattle.std.proofs.Common.{subst}
use Rattle.cad_declarations.specs.Views.{block_of}
use Rattle.cad_evaluation.specs.Ending.{dropped}
use Rattle.cad_outcomes.specs.Outcomes.{Gives, no_value}
use Rattle.cad_rows.specs.Views.{pure_tree}
use Rattle.cad_command_runs.proofs.Entering.{run_err, run_ok}
use Rattle.cad_command_runs.proofs.entries.run_body.Goals as goal

pub returns-in-Ok : goal.returns-in-Ok
returns-in-Ok g c =
    run_ok (g.C.Callees.front c.args.callees.now) (g.C.Callees.calls c.args.callees.now) c.args.turns (block_of c.args.body.now) c.in-Ok.value c.args.state.now c.block_value.new.state c.let_go.result c.in-Ok.ensures
    (subst (λ t. Gives no_value (dropped (pure_tree t)) c.let_go.result) c.unboxed.ensures c.let_go.ensures)

pub returns-in-Err : goal.returns-in-Err
returns-in-Err g c =
    run_err (g.C.Callees.front c.args.callees.now) (g.C.Callees.calls c.args.callees.now) c.args.turns (block_of c.args.body.now) c.args.state.now c.in-Err.stop c.in-Err.ensures
