use Rattle.cad_capabilities.proofs.Acts.{controller_lost, controller_read, lent_nowhere, lent_there}
use Rattle.cad_capabilities.specs.Views.{id_of}
use Rattle.cad_state.specs.Views.{controller_of}
use Rattle.cad_world.specs.State.{give}
use Rattle.cad_capabilities.specs.Code.{stored_path}
use Rattle.cad_capabilities.proofs.controllers.read_target.Goals as goal

pub returns-in-Ok-Some : goal.returns-in-Ok-Some
returns-in-Ok-Some c = λ spot e.
    controller_read spot (id_of c.args.id) (λ i k. give (stored_path k.target)) (controller_of c.in-Ok-Some.led.now) c.args.state.now c.path_tree.result e (lent_there c.in-Ok-Some.field-0 c.in-Ok-Some.led c.args.state.now c.args.id.address.0 c.args.id.number c.in-Ok-Some.field-0-is c.in-Ok-Some.ensures) c.path_tree.ensures

pub returns-in-Ok-None : goal.returns-in-Ok-None
returns-in-Ok-None c = λ spot e. controller_lost spot (id_of c.args.id) (λ i k. give (stored_path k.target)) c.args.state.now e (lent_nowhere c.in-Ok-None.field-0 c.args.state.now c.args.id.address.0 c.args.id.number c.in-Ok-None.field-0-is c.in-Ok-None.ensures)
