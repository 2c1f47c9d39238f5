use Rattle.cad_evaluation.specs.Reading.{copied}
use Rattle.cad_receivers.specs.Views.{settled_of, spot_of}
use Rattle.cad_rows.specs.Views.{pure_tree}
use Rattle.cad_state.proofs.Finding.{find_given, find_stopped}
use Rattle.cad_world.specs.Receivers.{look_at}
use Rattle.cad_standing.proofs.Composing.{here_then}
use Rattle.cad_standing.proofs.values.copy_receiver.Goals as goal

pub returns-in-Ok : goal.returns-in-Ok
returns-in-Ok c =
    here_then spot_of pure_tree (look_at (settled_of c.args.receiver)) (λ spot. copied spot.tree) c.in-Ok.spot c.args.state.now c.args.state.now c.copy_lent.result c.in-Ok.ensures
    (find_given pure_tree (copied (spot_of c.in-Ok.spot).tree) c.args.state.now c.copy_lent.result c.copy_lent.ensures)

pub returns-in-Err : goal.returns-in-Err
returns-in-Err c =
    find_stopped spot_of pure_tree (look_at (settled_of c.args.receiver)) (λ spot. copied spot.tree) c.args.state.now c.args.state.now c.args.state.now c.in-Err.stop c.in-Err.ensures
