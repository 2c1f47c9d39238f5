use Rattle.cad_evaluation.specs.Standing.{field_of}
use Rattle.cad_receivers.specs.Views.{settled_of, spot_of}
use Rattle.cad_state.proofs.Finding.{find_stopped}
use Rattle.cad_world.specs.Receivers.{look_at}
use Rattle.cad_standing.specs.Views.{standing_of}
use Rattle.cad_standing.proofs.Composing.{here_then}
use Rattle.cad_standing.proofs.fields.field_of_receiver.Goals as goal

pub returns-in-Ok : goal.returns-in-Ok
returns-in-Ok c =
    here_then spot_of standing_of (look_at (settled_of c.args.receiver)) (field_of c.args.writes c.args.field.now) c.in-Ok.spot c.args.state.now c.args.state.now c.field_of_spot.result c.in-Ok.ensures c.field_of_spot.ensures

pub returns-in-Err : goal.returns-in-Err
returns-in-Err c =
    find_stopped spot_of standing_of (look_at (settled_of c.args.receiver)) (field_of c.args.writes c.args.field.now) c.args.state.now c.args.state.now c.args.state.now c.in-Err.stop c.in-Err.ensures
