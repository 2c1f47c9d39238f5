use Rattle.cad_calls.specs.Pieces.{initializer_in}
use Rattle.cad_rows.specs.Views.{pure_row}
use Rattle.cad_access.specs.RunContracts.{run_of}
use Rattle.cad_world.specs.Declared as declared
use Rattle.cad_calls.proofs.Levels.{found_initializer, initializer_called}
use Rattle.cad_calls.proofs.level.call_initializer.Goals as goal

pub returns-in-Ok : goal.returns-in-Ok
returns-in-Ok g c none =
    initializer_called (g.C.Callees.front c.args.callees.now) (g.C.Callees.calls c.args.callees.now) c.args.turns c.args.id.now c.args.label (initializer_in c.in-Ok.own) (pure_row c.args.arguments.items) c.args.state.now c.run_initializer-result.new.state c.run_initializer-result.result (found_initializer c.args.id.now c.in-Ok.own (declared.bodies_of (run_of c.args.state.now) c.args.id.now) c.in-Ok.ensures) (c.run_initializer-result.ensures none)
