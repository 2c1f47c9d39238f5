use Rattle.cad_value_operations.proofs.Looks.{looked_stops, looked_then}
use Rattle.cad_receivers.specs.Views.{settled_of, spot_of}
use Rattle.cad_rows.specs.Views.{pure_tree}
use Rattle.cad_state.proofs.Finding.{find_given}
use Rattle.cad_world.specs.Receivers.{look_at}
use Rattle.cad_evaluation.specs.Casts as casts
use Rattle.cad_value_operations.proofs.operators.copied_here.Goals as goal

pub returns-in-Ok : goal.returns-in-Ok
returns-in-Ok c = looked_then spot_of pure_tree (look_at (settled_of c.args.receiver)) casts.dereferenced c.in-Ok.spot c.args.state.now c.args.state.now c.copied_spot.result c.in-Ok.ensures (find_given pure_tree (casts.dereferenced (spot_of c.in-Ok.spot)) c.args.state.now c.copied_spot.result c.copied_spot.ensures)

pub returns-in-Err : goal.returns-in-Err
returns-in-Err c = looked_stops spot_of pure_tree (look_at (settled_of c.args.receiver)) casts.dereferenced c.args.state.now c.args.state.now c.in-Err.stop c.in-Err.ensures
