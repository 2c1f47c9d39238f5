use Rattle.cad_evaluation.specs.Builtins.{may_use}
use Rattle.cad_world.specs.Receivers.{Spot}
use Rattle.cad_world.specs.State.{done, guard}
use Rattle.cad_outcomes.specs.Outcomes.{no_value}
use Rattle.cad_outcomes.proofs.Steps.{gives_here}
use Rattle.cad_state.specs.Views.{state_over}
use Rattle.cad_receivers.specs.Views.{spot_of}
use Rattle.cad_receivers.proofs.Passing.{looked, look_stops}
use Rattle.cad_receivers.specs.Views.{settled_of}
use Rattle.cad_receivers.proofs.uses.check_rights_settled.Goals as goal

pub returns-in-Ok : goal.returns-in-Ok
returns-in-Ok c = looked no_value (settled_of c.args.receiver) (λ (first : Spot). guard (may_use c.args.member first) done) c.in-Ok.spot c.args.state.now c.check_rights.result c.in-Ok.ensures
    (λ w. gives_here no_value (guard (may_use c.args.member (spot_of c.in-Ok.spot)) done) c.check_rights.result (state_over w c.args.state.now) c.check_rights.ensures)

pub returns-in-Err : goal.returns-in-Err
returns-in-Err c = look_stops (settled_of c.args.receiver) (λ (first : Spot). guard (may_use c.args.member first) done) c.args.state.now c.in-Err.stop c.in-Err.ensures
