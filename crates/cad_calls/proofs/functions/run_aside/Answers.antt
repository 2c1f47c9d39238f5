use Rattle.std.proofs.Common.{map}
use Rattle.cad_calls.specs.Pieces.{maybe_piece}
use Rattle.cad_function_sources.specs.Sources.{piece_of}
use Rattle.cad_calls.proofs.Runs.{aside_err, aside_ok}
use Rattle.cad_calls.proofs.functions.run_aside.Goals as goal

pub returns-in-Ok : goal.returns-in-Ok
returns-in-Ok g c =
    aside_ok (g.C.Callees.front c.args.callees.now) (g.C.Callees.calls c.args.callees.now) c.args.turns (maybe_piece c.args.own) (map piece_of c.args.others.now) c.in-Ok.value c.args.state.now c.run_prepared.new.state c.put_result.new.state c.put_result.result c.in-Ok.ensures c.put_result.ensures

pub returns-in-Err : goal.returns-in-Err
returns-in-Err g c =
    aside_err (g.C.Callees.front c.args.callees.now) (g.C.Callees.calls c.args.callees.now) c.args.turns (maybe_piece c.args.own) (map piece_of c.args.others.now) c.args.state.now c.in-Err.stop c.in-Err.ensures
