use Rattle.std.proofs.Common.{refl, map, None, false, []}
use Rattle.cad_rows.specs.Views.{pure_row}
use Rattle.cad_calls.specs.Pieces.{maybe_piece}
use Rattle.cad_declarations.specs.Views.{member_body_of}
use Rattle.cad_evaluation.specs.Evaluation as evaluation
use Rattle.cad_world.specs.Declared as declared
use Rattle.cad_calls.proofs.Levels.{run_as}
use Rattle.cad_calls.proofs.level.run_function.Goals as goal

pub returns : goal.returns
returns g c none =
    run_as (g.C.Callees.front c.args.callees.now) (g.C.Callees.calls c.args.callees.now) c.args.turns None false (maybe_piece c.outside-own.result) (evaluation.outside (declared.function_in (map member_body_of c.args.checked.now.bodies.functions.items) c.args.name.now)) [] [] (pure_row c.args.arguments.items) c.args.state.now c.run.new.state c.run.result c.outside-own.ensures refl (c.run.ensures none)
