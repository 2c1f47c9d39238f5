use Rattle.cad_evaluation.specs.Standing.{element_of}
use Rattle.cad_receivers.specs.Views.{settled_of, spot_of}
use Rattle.cad_rows.specs.Views.{pure_tree}
use Rattle.cad_state.proofs.Finding.{find_given, find_stopped}
use Rattle.cad_world.specs.Receivers.{look_at}
use Rattle.cad_standing.specs.Views.{standing_of}
use Rattle.cad_standing.proofs.Composing.{here_then}
use Rattle.cad_standing.proofs.elements.element_of_receiver.Goals as goal

pub returns-in-Ok : goal.returns-in-Ok
returns-in-Ok c =
    here_then spot_of standing_of (look_at (settled_of c.args.base)) (element_of c.args.writes (pure_tree c.args.index.now)) c.in-Ok.spot c.args.state.now c.args.state.now c.element_of_spot.result c.in-Ok.ensures
    (find_given standing_of (element_of c.args.writes (pure_tree c.args.index.now) (spot_of c.in-Ok.spot)) c.args.state.now c.element_of_spot.result c.element_of_spot.ensures)

pub returns-in-Err : goal.returns-in-Err
returns-in-Err c =
    find_stopped spot_of standing_of (look_at (settled_of c.args.base)) (element_of c.args.writes (pure_tree c.args.index.now)) c.args.state.now c.args.state.now c.args.state.now c.in-Err.stop c.in-Err.ensures
