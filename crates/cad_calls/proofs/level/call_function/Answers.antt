use Rattle.std.proofs.Common.{◌∙◌}
use Rattle.cad_rows.specs.Views.{pure_row}
use Rattle.cad_calls.proofs.Levels.{function_called}
use Rattle.cad_calls.proofs.level.call_function.Goals as goal

pub returns-in-Ok : goal.returns-in-Ok
returns-in-Ok g c none =
    function_called (g.C.Callees.front c.args.callees.now) (g.C.Callees.calls c.args.callees.now) c.args.turns c.args.name.now c.deref.result.now (pure_row c.args.arguments.items) c.args.state.now c.run_function-result.new.state c.run_function-result.result (c.deref.ensures ∙ c.in-Ok.ensures) (c.run_function-result.ensures none)
