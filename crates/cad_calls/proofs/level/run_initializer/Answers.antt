use Rattle.std.proofs.Common.{refl, Some, true, []}
use Rattle.cad_rows.specs.Views.{pure_row}
use Rattle.cad_calls.specs.Pieces.{initializer_in, maybe_piece}
use Rattle.cad_calls.proofs.Levels.{run_as}
use Rattle.cad_calls.proofs.level.run_initializer.Goals as goal

pub returns : goal.returns
returns g c none =
    run_as (g.C.Callees.front c.args.callees.now) (g.C.Callees.calls c.args.callees.now) c.args.turns (Some c.args.label) true (maybe_piece c.own_initializer-initializer.result) (initializer_in c.args.own.now) [] [] (pure_row c.args.arguments.items) c.args.state.now c.run.new.state c.run.result c.own_initializer-initializer.ensures refl (c.run.ensures none)
