use Rattle.cad_receivers.specs.Views.{settled_of, spot_of}
use Rattle.cad_state.proofs.Finding.{find_given}
use Rattle.cad_value_operations.proofs.Looks.{looked_stops, looked_then}
use Rattle.cad_value_operations.specs.Code.Members.{told_by, told_of}
use Rattle.cad_world.specs.Receivers.{look_at}
use Rattle.cad_world.specs.State.{give}
use Rattle.cad_value_operations.proofs.types.told_here.Goals as goal

pub returns-in-Ok : goal.returns-in-Ok
returns-in-Ok c =
    looked_then spot_of told_of (look_at (settled_of c.args.receiver)) (λ spot. give (told_by spot)) c.in-Ok.spot c.args.state.now c.args.state.now c.told_by.result c.in-Ok.ensures
    (find_given told_of (give (told_by (spot_of c.in-Ok.spot))) c.args.state.now c.told_by.result c.told_by.ensures)

pub returns-in-Err : goal.returns-in-Err
returns-in-Err c =
    looked_stops spot_of told_of (look_at (settled_of c.args.receiver)) (λ spot. give (told_by spot)) c.args.state.now c.args.state.now c.in-Err.stop c.in-Err.ensures
