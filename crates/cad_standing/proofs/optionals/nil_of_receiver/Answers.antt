use Rattle.cad_evaluation.specs.Changing.{content_of}
use Rattle.cad_evaluation.specs.Uses.{nil_of}
use Rattle.cad_receivers.specs.Views.{settled_of, spot_of}
use Rattle.cad_rows.specs.Views.{pure_row}
use Rattle.cad_state.proofs.Finding.{find_given, find_stopped}
use Rattle.cad_world.specs.Receivers.{look_at}
use Rattle.std.specs.Prelude.{Bool}
use Rattle.cad_standing.proofs.Composing.{here_then}
use Rattle.cad_standing.proofs.optionals.nil_of_receiver.Goals as goal

pub returns-in-Ok : goal.returns-in-Ok
returns-in-Ok c =
    here_then {D = Bool} spot_of (λ b. b) (look_at (settled_of c.args.receiver)) (λ spot. nil_of (content_of spot.tree)) c.in-Ok.spot c.args.state.now c.args.state.now c.nil_of_lent.result c.in-Ok.ensures
    (find_given {B = Bool} (λ b. b) (nil_of (content_of (spot_of c.in-Ok.spot).tree)) c.args.state.now c.nil_of_lent.result (c.nil_of_lent.ensures (pure_row c.in-Ok.spot.parts.now)))

pub returns-in-Err : goal.returns-in-Err
returns-in-Err c =
    find_stopped {D = Bool} spot_of (λ b. b) (look_at (settled_of c.args.receiver)) (λ spot. nil_of (content_of spot.tree)) c.args.state.now c.args.state.now c.args.state.now c.in-Err.stop c.in-Err.ensures
