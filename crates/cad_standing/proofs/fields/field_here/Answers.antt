use Rattle.cad_evaluation.specs.Standing.{base_of, field_of, here, named_spot, without}
use Rattle.cad_locations.specs.Views.{location_of}
use Rattle.cad_standing.specs.Actions.{and_then}
use Rattle.cad_standing.specs.Views.{standing_of}
use Rattle.cad_standing.proofs.Settled.{settled, unsettled_twice}
use Rattle.cad_standing.proofs.fields.field_here.Goals as goal

pub returns-in-Ok : goal.returns-in-Ok
returns-in-Ok c =
    let x = location_of c.args.location.now in
    settled standing_of x (and_then (base_of (here c.args.rights.now x c.args.inside)) (field_of c.args.writes c.args.field.now))
    c.args.state.now c.settle.new.state c.field_planned.new.state c.field_planned.result c.in-Ok.ensures c.field_planned.ensures

pub returns-in-Err : goal.returns-in-Err
returns-in-Err c =
    let x = location_of c.args.location.now in
    unsettled_twice standing_of x (λ t. named_spot c.args.rights.now x (without c.args.inside t)) (field_of c.args.writes c.args.field.now)
    c.args.state.now c.settle.new.state c.settle.new.state c.in-Err.stop c.in-Err.ensures
