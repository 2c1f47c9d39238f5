use Rattle.std.proofs.Common.{map}
use Rattle.cad_calls.specs.Pieces.{maybe_piece}
use Rattle.cad_function_sources.specs.Sources.{piece_of}
use Rattle.cad_calls.proofs.Runs.{prepared_err, prepared_ok}
use Rattle.cad_calls.proofs.functions.prepare.Goals as goal

pub returns-in-Ok : goal.returns-in-Ok
returns-in-Ok g c =
    prepared_ok (g.C.Callees.front c.args.callees.now) (g.C.Callees.calls c.args.callees.now) (maybe_piece c.args.own) (map piece_of c.args.others.now) c.args.state.now c.preconditions.new.state c.keep_before_all.new.state c.keep_before_all.result (g.met.C.Callees.keeps c.args.callees.now) c.in-Ok.ensures c.keep_before_all.ensures

pub returns-in-Err : goal.returns-in-Err
returns-in-Err g c =
    prepared_err (g.C.Callees.front c.args.callees.now) (g.C.Callees.calls c.args.callees.now) (maybe_piece c.args.own) (map piece_of c.args.others.now) c.args.state.now c.in-Err.stop c.in-Err.ensures
