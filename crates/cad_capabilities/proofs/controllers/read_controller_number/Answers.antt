use Rattle.std.proofs.Common.{Option, ap}
use Rattle.std.specs.Prelude.{Ok}
use Rattle.cad_world.specs.Rows.{Tree}
use Rattle.cad_capabilities.proofs.Acts.{controller_lost, controller_read, lent_nowhere, lent_there}
use Rattle.cad_capabilities.specs.Views.{id_of}
use Rattle.cad_state.specs.Views.{controller_of}
use Rattle.cad_world.specs.State.{give, with_some}
use Rattle.cad_evaluation.specs.Reading.{unsigned_64}
use Rattle.cad_capabilities.proofs.controllers.read_controller_number.Goals as goal

pub returns-in-Ok-Some : goal.returns-in-Ok-Some
returns-in-Ok-Some c = λ spot e.
    controller_read spot (id_of c.args.id) (λ i k. with_some (unsigned_64 k.number) give) (controller_of c.in-Ok-Some.led.now) c.args.state.now (Ok c.unsigned_tree.result) e (lent_there c.in-Ok-Some.field-0 c.in-Ok-Some.led c.args.state.now c.args.id.address.0 c.args.id.number c.in-Ok-Some.field-0-is c.in-Ok-Some.ensures) (λ s. ap (λ (o : Option Tree). with_some o give s) c.unsigned_tree.ensures)

pub returns-in-Ok-None : goal.returns-in-Ok-None
returns-in-Ok-None c = λ spot e. controller_lost spot (id_of c.args.id) (λ i k. with_some (unsigned_64 k.number) give) c.args.state.now e (lent_nowhere c.in-Ok-None.field-0 c.args.state.now c.args.id.address.0 c.args.id.number c.in-Ok-None.field-0-is c.in-Ok-None.ensures)
