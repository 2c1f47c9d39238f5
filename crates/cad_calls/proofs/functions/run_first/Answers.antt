use Rattle.std.proofs.Common.{ap, ◌∙◌, sym, map}
use Rattle.cad_calls.specs.Pieces.{maybe_piece}
use Rattle.cad_function_sources.specs.Sources.{piece_of}
use Rattle.cad_evaluation.specs.Bodies as spec
use Rattle.cad_calls.proofs.Runs.{run_some}
use Rattle.cad_calls.proofs.functions.run_first.Goals as goal

pub returns-in-Some : goal.returns-in-Some
returns-in-Some g c =
    run_some (g.C.Callees.front c.args.callees.now) (g.C.Callees.calls c.args.callees.now) c.args.turns (spec.running (maybe_piece c.args.own) (map piece_of c.args.others.now)) (piece_of c.in-Some.piece) c.args.state.now c.run_body.new.state c.run_body.result (sym c.running.ensures ∙ ap maybe_piece c.in-Some.is) c.run_body.ensures
