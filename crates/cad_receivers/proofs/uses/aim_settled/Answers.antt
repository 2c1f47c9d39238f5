use Rattle.std.proofs.Common.{ℕ}
use Rattle.cad_evaluation.specs.Reading.{composite_id}
use Rattle.cad_syntax.specs.declared.type_id.TypeId.{TypeId}
use Rattle.cad_world.specs.Receivers.{Spot}
use Rattle.cad_world.specs.State.{give, with_some}
use Rattle.cad_receivers.specs.Uses.{aimed}
use Rattle.cad_outcomes.proofs.Steps.{gives_here}
use Rattle.cad_state.specs.Views.{state_over}
use Rattle.cad_receivers.specs.Views.{spot_of}
use Rattle.cad_receivers.proofs.Passing.{looked, look_stops}
use Rattle.cad_receivers.specs.Views.{settled_of}
use Rattle.cad_receivers.proofs.uses.aim_settled.Goals as goal

pub returns-in-Ok : goal.returns-in-Ok
returns-in-Ok c = looked aimed (settled_of c.args.receiver) (λ (spot : Spot). with_some {B = TypeId × ℕ} (composite_id spot.tree) (λ id. with_some {B = TypeId × ℕ} spot.label (λ l. give (id, l)))) c.in-Ok.spot c.args.state.now c.aim_spot.result c.in-Ok.ensures
    (λ w. gives_here aimed (with_some {B = TypeId × ℕ} (composite_id (spot_of c.in-Ok.spot).tree) (λ id. with_some {B = TypeId × ℕ} (spot_of c.in-Ok.spot).label (λ l. give (id, l)))) c.aim_spot.result (state_over w c.args.state.now) c.aim_spot.ensures)

pub returns-in-Err : goal.returns-in-Err
returns-in-Err c = look_stops (settled_of c.args.receiver) (λ (spot : Spot). with_some {B = TypeId × ℕ} (composite_id spot.tree) (λ id. with_some {B = TypeId × ℕ} spot.label (λ l. give (id, l)))) c.args.state.now c.in-Err.stop c.in-Err.ensures
