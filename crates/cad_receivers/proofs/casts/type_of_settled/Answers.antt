use Rattle.cad_labels.proofs.Places.{looks_keep}
use Rattle.cad_labels.specs.Laws.{AnyOne}
use Rattle.cad_receivers.specs.Code.Casts.{type_led}
use Rattle.cad_receivers.specs.Views.{settled_of, spot_of}
use Rattle.cad_state.proofs.Finding.{find_stopped, find_then}
use Rattle.cad_syntax.specs.Types.{pure_type}
use Rattle.cad_world.specs.Receivers.{look_at}
use Rattle.cad_receivers.proofs.casts.type_of_settled.Goals as goal

pub returns-in-Ok : goal.returns-in-Ok
returns-in-Ok c =
    let r = settled_of c.args.receiver in
    let x = c.args.state.now in
    find_then AnyOne (look_at r) (looks_keep r) spot_of pure_type (type_led c.args.rights.now c.args.depth) c.in-Ok.spot x x x c.type_of_spot.result c.in-Ok.ensures (λ u. c.type_of_spot.ensures)

pub returns-in-Err : goal.returns-in-Err
returns-in-Err c =
    let x = c.args.state.now in
    find_stopped spot_of pure_type (look_at (settled_of c.args.receiver)) (type_led c.args.rights.now c.args.depth) x x x c.in-Err.stop c.in-Err.ensures
