use Rattle.std.proofs.Common.{ℕ, Err}
use Rattle.cad_labels.specs.Laws.{AnyOne}
use Rattle.cad_receivers.proofs.StoredLaws.{depth_keeps, stored_in_steps}
use Rattle.cad_receivers.specs.Code.Stored.{depth_stored}
use Rattle.cad_receivers.specs.Settled.{settled_stored, stood_lent}
use Rattle.cad_receivers.specs.Views.{settled_of}
use Rattle.cad_state.proofs.Finding.{find_same, find_stopped, find_then}
use Rattle.cad_state.specs.Views.{state_over}
use Rattle.cad_syntax.specs.Types.{pure_type}
use Rattle.cad_world.specs.Locations.{stored}
use Rattle.cad_world.specs.State.{◌>>=◌}
use Rattle.cad_receivers.proofs.stored.settle_stored.Goals as goal

pub returns-in-Ok : goal.returns-in-Ok
returns-in-Ok c =
    let a = c.args.reference.now.authorization in
    let type = pure_type c.args.reference.now.target in
    let address = c.args.address.0 in
    let path = c.args.path.now in
    let depth = depth_stored type address path in
    let x = c.args.state.now in
    let y = c.stand_stored.new.state in
    find_same settled_of (settled_stored a type address path) (depth >>= stood_lent a (stored address path)) x y c.stand_stored.result
    (λ w ready. stored_in_steps a type address path (state_over w x))
    (find_then AnyOne depth (depth_keeps type address path) (λ (n : ℕ). n) settled_of (stood_lent a (stored address path)) c.in-Ok.sees x x y c.stand_stored.result c.in-Ok.ensures (λ u. c.stand_stored.ensures))

pub returns-in-Err : goal.returns-in-Err
returns-in-Err c =
    let a = c.args.reference.now.authorization in
    let type = pure_type c.args.reference.now.target in
    let address = c.args.address.0 in
    let path = c.args.path.now in
    let depth = depth_stored type address path in
    let x = c.args.state.now in
    find_same settled_of (settled_stored a type address path) (depth >>= stood_lent a (stored address path)) x x (Err c.in-Err.stop)
    (λ w ready. stored_in_steps a type address path (state_over w x))
    (find_stopped (λ (n : ℕ). n) settled_of depth (stood_lent a (stored address path)) x x x c.in-Err.stop c.in-Err.ensures)
