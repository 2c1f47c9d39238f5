use Rattle.cad_calls.specs.Pieces.{own_of}
use Rattle.cad_rows.specs.Views.{pure_row}
use Rattle.cad_access.specs.RunContracts.{run_of}
use Rattle.cad_world.specs.Declared as declared
use Rattle.cad_calls.proofs.Levels.{found_own, method_called}
use Rattle.cad_calls.proofs.level.call_method.Goals as goal

pub returns-in-Ok : goal.returns-in-Ok
returns-in-Ok g c none =
    method_called (g.C.Callees.front c.args.callees.now) (g.C.Callees.calls c.args.callees.now) c.args.turns c.args.id.now c.args.name.now c.args.label (own_of c.args.name.now c.in-Ok.own) (pure_row c.args.arguments.items) c.args.state.now c.run_method-result.new.state c.run_method-result.result (found_own c.args.name.now c.args.id.now c.in-Ok.own (declared.bodies_of (run_of c.args.state.now) c.args.id.now) c.in-Ok.ensures) (c.run_method-result.ensures none)
