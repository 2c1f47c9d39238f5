use Rattle.std.proofs.Common.{map}
use Rattle.cad_calls.specs.Pieces.{maybe_piece}
use Rattle.cad_function_sources.specs.Sources.{piece_of}
use Rattle.cad_calls.proofs.Runs.{given_err, given_ok}
use Rattle.cad_calls.proofs.functions.run_prepared.Goals as goal

pub returns-in-Ok : goal.returns-in-Ok
returns-in-Ok g c =
    given_ok (g.C.Callees.front c.args.callees.now) (g.C.Callees.calls c.args.callees.now) c.args.turns (maybe_piece c.args.own) (map piece_of c.args.others.now) c.args.state.now c.prepare.new.state c.run_first.new.state c.run_first.result (g.met.C.Callees.keeps c.args.callees.now) c.in-Ok.ensures c.run_first.ensures

pub returns-in-Err : goal.returns-in-Err
returns-in-Err g c =
    given_err (g.C.Callees.front c.args.callees.now) (g.C.Callees.calls c.args.callees.now) c.args.turns (maybe_piece c.args.own) (map piece_of c.args.others.now) c.args.state.now c.in-Err.stop c.in-Err.ensures
