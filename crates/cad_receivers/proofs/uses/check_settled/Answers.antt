use Rattle.cad_evaluation.specs.Uses.{callable}
use Rattle.cad_outcomes.specs.Outcomes.{no_value}
use Rattle.cad_receivers.proofs.Passing.{looked, look_stops}
use Rattle.cad_receivers.specs.Views.{settled_of}
use Rattle.cad_receivers.proofs.uses.check_settled.Goals as goal

pub returns-in-Ok : goal.returns-in-Ok
returns-in-Ok c = looked no_value (settled_of c.args.receiver) (callable c.args.name.now) c.in-Ok.spot c.args.state.now c.check_spot.result c.in-Ok.ensures
    c.check_spot.ensures

pub returns-in-Err : goal.returns-in-Err
returns-in-Err c = look_stops (settled_of c.args.receiver) (callable c.args.name.now) c.args.state.now c.in-Err.stop c.in-Err.ensures
