use Rattle.cad_receivers.specs.Views.{settled_of, spot_of}
use Rattle.cad_state.proofs.Finding.{find_given}
use Rattle.cad_value_operations.proofs.Looks.{looked_stops, looked_then}
use Rattle.cad_value_operations.specs.Code.Members.{search_cost}
use Rattle.cad_world.specs.Receivers.{look_at}
use Rattle.std.proofs.Common.{ℕ}
use Rattle.cad_value_operations.proofs.spots.search_cost.Goals as goal

pub returns-in-Ok : goal.returns-in-Ok
returns-in-Ok c = looked_then spot_of (λ (n : ℕ). n) (look_at (settled_of c.args.receiver)) search_cost c.in-Ok.spot c.args.state.now c.args.state.now c.cost_of.result c.in-Ok.ensures (find_given (λ (n : ℕ). n) (search_cost (spot_of c.in-Ok.spot)) c.args.state.now c.cost_of.result c.cost_of.ensures)

pub returns-in-Err : goal.returns-in-Err
returns-in-Err c = looked_stops spot_of (λ (n : ℕ). n) (look_at (settled_of c.args.receiver)) search_cost c.args.state.now c.args.state.now c.in-Err.stop c.in-Err.ensures
