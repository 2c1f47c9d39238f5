use Rattle.cad_outcomes.specs.Outcomes.{no_value}
use Rattle.cad_world.specs.State.{done}
use Rattle.cad_locations.specs.Views.{location_of}
use Rattle.cad_locations.proofs.Settled.{found_then, not_found}
use Rattle.cad_locations.proofs.reading.settle.Goals as goal

pub returns-in-Ok : goal.returns-in-Ok
returns-in-Ok c = found_then no_value (location_of c.args.location.now) (λ _. done) c.args.state.now c.locate.new.state c.locate.new.state c.look.result c.in-Ok.ensures c.look.ensures

pub returns-in-Err : goal.returns-in-Err
returns-in-Err c = not_found no_value (location_of c.args.location.now) (λ _. done) c.args.state.now c.locate.new.state c.locate.new.state c.in-Err.stop c.in-Err.ensures
