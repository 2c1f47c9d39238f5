use Rattle.std.proofs.Common.{◌∙◌, ap, map, Some, false}
use Rattle.cad_calls.specs.Pieces.{own_of}
use Rattle.cad_rows.specs.Views.{pure_row}
use Rattle.cad_calls.specs.Pieces.{maybe_piece}
use Rattle.cad_function_sources.specs.Sources.{piece_of}
use Rattle.cad_function_sources.specs.Sources as view
use Rattle.cad_calls.proofs.Levels.{run_as}
use Rattle.cad_calls.proofs.level.run_sources.Goals as goal

pub returns-in-Ok : goal.returns-in-Ok
returns-in-Ok g c none =
    run_as (g.C.Callees.front c.args.callees.now) (g.C.Callees.calls c.args.callees.now) c.args.turns (Some c.args.label) false (maybe_piece c.own_piece.result) (own_of c.args.name.now c.args.own.now) (map piece_of c.as_slice.result.now) (view.pieces c.args.name.now c.args.others.now) (pure_row c.args.arguments.items) c.args.state.now c.run.new.state c.run.result c.own_piece.ensures (ap (map piece_of) c.as_slice.ensures.value ∙ c.in-Ok.ensures) (c.run.ensures none)
