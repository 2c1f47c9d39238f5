use Rattle.std.proofs.Common.{sym, ap, ◌∙◌}
use Rattle.std.specs.Option.{is_some}
use Rattle.cad_casts.proofs.Settles.{is_mapped}
use Rattle.cad_state.specs.Views.{controller_of, state_over}
use Rattle.cad_world.specs.OwnTypes.{controller_at}
use Rattle.cad_casts.proofs.own_types.is_controller.Goals as goal

pub returns-in-Ok-Some : goal.returns-in-Ok-Some
returns-in-Ok-Some c = λ w.
    sym (ap is_some c.in-Ok-Some.field-0-is)
    ∙ is_mapped (λ x. controller_of x.now) c.in-Ok-Some.field-0 (controller_at (state_over w c.args.state.now) c.args.address.0 c.args.id) (c.in-Ok-Some.ensures w)

pub returns-in-Ok-None : goal.returns-in-Ok-None
returns-in-Ok-None c = λ w.
    sym (ap is_some c.in-Ok-None.field-0-is)
    ∙ is_mapped (λ x. controller_of x.now) c.in-Ok-None.field-0 (controller_at (state_over w c.args.state.now) c.args.address.0 c.args.id) (c.in-Ok-None.ensures w)
