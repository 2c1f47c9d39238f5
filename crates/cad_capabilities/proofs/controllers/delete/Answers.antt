use Rattle.std.proofs.Common.{sym, ◌∙◌}
use Rattle.cad_capabilities.proofs.Acts.{controller_changed, controller_missing}
use Rattle.cad_capabilities.specs.Code.{deleted}
use Rattle.cad_capabilities.specs.Views.{id_of}
use Rattle.cad_capabilities.proofs.controllers.delete.Goals as goal

pub returns-in-Ok-true : goal.returns-in-Ok-true
returns-in-Ok-true c = λ spot e.
    controller_changed spot (id_of c.args.id) (deleted) c.args.state.now c.delete_there.new.state c.delete_there.result e (λ w. sym (c.in-Ok-true.ensures w) ∙ c.in-Ok-true.field-0-test) c.delete_there.ensures

pub returns-in-Ok-false : goal.returns-in-Ok-false
returns-in-Ok-false c = λ spot e. controller_missing spot (id_of c.args.id) (deleted) c.args.state.now e (λ w. sym (c.in-Ok-false.ensures w) ∙ c.in-Ok-false.field-0-test)
