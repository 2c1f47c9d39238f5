use Rattle.std.proofs.Common.{ℕ}
use Rattle.cad_evaluation.specs.Reading.{composite_id}
use Rattle.cad_syntax.specs.declared.type_id.TypeId.{TypeId}
use Rattle.cad_world.specs.Receivers.{Spot}
use Rattle.cad_world.specs.State.{give, with_some}
use Rattle.cad_receivers.specs.Uses.{aimed}
use Rattle.cad_receivers.proofs.Passing.{after_settled, settled_stops}
use Rattle.cad_receivers.specs.Views.{receiver_of}
use Rattle.cad_receivers.proofs.uses.aim.Goals as goal

pub returns-in-Ok : goal.returns-in-Ok
returns-in-Ok c = after_settled aimed (receiver_of c.args.receiver.now) (λ (spot : Spot). with_some {B = TypeId × ℕ} (composite_id spot.tree) (λ id. with_some {B = TypeId × ℕ} spot.label (λ l. give (id, l)))) c.in-Ok.settled
    c.args.state.now c.settle_receiver.new.state c.settle_receiver.new.state c.aim_settled.result c.in-Ok.ensures c.aim_settled.ensures

pub returns-in-Err : goal.returns-in-Err
returns-in-Err c = settled_stops aimed (receiver_of c.args.receiver.now) (λ (spot : Spot). with_some {B = TypeId × ℕ} (composite_id spot.tree) (λ id. with_some {B = TypeId × ℕ} spot.label (λ l. give (id, l))))
    c.args.state.now c.settle_receiver.new.state c.settle_receiver.new.state c.in-Err.stop c.in-Err.ensures
