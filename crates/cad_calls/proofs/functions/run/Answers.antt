use Rattle.std.proofs.Common.{map}
use Rattle.cad_calls.specs.Pieces.{maybe_piece}
use Rattle.cad_function_sources.specs.Sources.{piece_of}
use Rattle.cad_rows.specs.Views.{pure_row}
use Rattle.cad_calls.proofs.Runs.{run_err, run_ok}
use Rattle.cad_calls.proofs.functions.run.Goals as goal

pub returns-in-Ok : goal.returns-in-Ok
returns-in-Ok g c none =
    run_ok (g.C.Callees.front c.args.callees.now) (g.C.Callees.calls c.args.callees.now) c.args.turns c.args.node.label c.args.node.initializes (maybe_piece c.args.own) (map piece_of c.args.others.now) (pure_row c.args.arguments.items) c.in-Ok.value c.args.state.now c.run_entered.new.state c.leave_with.new.state c.leave_with.result (c.in-Ok.ensures none) c.leave_with.ensures

pub returns-in-Err : goal.returns-in-Err
returns-in-Err g c none =
    run_err (g.C.Callees.front c.args.callees.now) (g.C.Callees.calls c.args.callees.now) c.args.turns c.args.node.label c.args.node.initializes (maybe_piece c.args.own) (map piece_of c.args.others.now) (pure_row c.args.arguments.items) c.args.state.now c.in-Err.stop (c.in-Err.ensures none)
