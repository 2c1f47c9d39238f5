use Rattle.cad_installations.proofs.Running.{run_ends, run_stops}
use Rattle.cad_rows.specs.Views.{pure_row}
use Rattle.cad_installations.proofs.installing.run_initializer.Goals as goal

pub returns-in-Ok : goal.returns-in-Ok
returns-in-Ok g c = run_ends (g.I.Initializers.calls c.args.by.now) c.args.id.now c.args.label (pure_row c.args.arguments.items) c.args.state.now c.initialize.new.state c.in-Ok.tree c.in-Ok.ensures

pub returns-in-Err : goal.returns-in-Err
returns-in-Err g c = run_stops (g.I.Initializers.calls c.args.by.now) c.args.id.now c.args.label (pure_row c.args.arguments.items) c.args.state.now c.initialize.new.state c.initialize.new.state c.in-Err.stop c.in-Err.ensures
