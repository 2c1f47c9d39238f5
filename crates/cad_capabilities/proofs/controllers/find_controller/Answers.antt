use Rattle.std.proofs.Common.{ap, sym, ◌∙◌}
use Rattle.cad_capabilities.proofs.Acts.{found_nowhere, found_there}
use Rattle.cad_state.specs.Views.{state_over}
use Rattle.cad_world.specs.OwnTypes.{controller_at}
use Rattle.cad_world.specs.Rows.{Tree}
use Rattle.cad_world.specs.State.{ok}
use Rattle.cad_world.specs.Trees.{wrapped}
use Rattle.cad_capabilities.proofs.controllers.find_controller.Goals as goal

pub returns-in-Ok-true : goal.returns-in-Ok-true
returns-in-Ok-true c = λ w.
    let s = state_over w c.args.state.now in
    ap (λ (t : Tree). ok t s) (found_there c.args.address c.args.n (controller_at s c.args.address.0 c.args.n) (sym (c.in-Ok-true.ensures w) ∙ c.in-Ok-true.field-0-test))
    ∙ ap (λ (t : Tree). ok t s) (sym (c.wrapped_value.ensures ∙ ap wrapped c.controller_reference.ensures))

pub returns-in-Ok-false : goal.returns-in-Ok-false
returns-in-Ok-false c = λ w.
    let s = state_over w c.args.state.now in
    ap (λ (t : Tree). ok t s) (found_nowhere c.args.address c.args.n (controller_at s c.args.address.0 c.args.n) (sym (c.in-Ok-false.ensures w) ∙ c.in-Ok-false.field-0-test))
    ∙ ap (λ (t : Tree). ok t s) (sym c.nil_tree.ensures)
