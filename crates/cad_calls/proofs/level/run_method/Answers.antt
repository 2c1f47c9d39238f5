use Rattle.std.proofs.Common.{◌∙◌, ap, refl, Some, false}
use Rattle.cad_calls.specs.Pieces.{own_of}
use Rattle.cad_rows.specs.Views.{pure_row}
use Rattle.cad_function_sources.specs.Sources as view
use Rattle.cad_access.specs.RunContracts.{run_of}
use Rattle.cad_evaluation.specs.Bodies as spec
use Rattle.cad_calls.proofs.Levels.{run_as}
use Rattle.cad_calls.proofs.level.run_method.Goals as goal

pub returns-in-Ok : goal.returns-in-Ok
returns-in-Ok g c none =
    run_as (g.C.Callees.front c.args.callees.now) (g.C.Callees.calls c.args.callees.now) c.args.turns (Some c.args.label) false (own_of c.args.name.now c.args.own.now) (own_of c.args.name.now c.args.own.now) (view.pieces c.args.name.now c.as_slice.result.now) (spec.inherited (run_of c.args.state.now) c.args.name.now c.args.id.now) (pure_row c.args.arguments.items) c.args.state.now c.run_sources-result.new.state c.run_sources-result.result refl (ap (λ l. view.pieces c.args.name.now l) c.as_slice.ensures.value ∙ c.in-Ok.ensures c.args.name.now) (c.run_sources-result.ensures none)
