use Rattle.std.proofs.Common.{ap, sym, ◌∙◌}
use Rattle.cad_casts.proofs.References.{reference_is}
use Rattle.cad_receivers.proofs.Targets.{account_settles, controller_settles, no_controller_settles}
use Rattle.cad_state.specs.Views.{state_over}
use Rattle.cad_syntax.specs.Types.{pure_type}
use Rattle.cad_world.specs.Receivers.{through}
use Rattle.cad_world.specs.Rows.{plain}
use Rattle.cad_receivers.specs.Views.{settled_of}
use Rattle.cad_receivers.specs.declared.receivers.Settled.TheVariants.{Through}
use Rattle.cad_receivers.proofs.settle.settle_known.Goals as goal

pub returns-in-Stored : goal.returns-in-Stored
returns-in-Stored c = rw c.in-Stored.is c.settle_stored.ensures

pub returns-in-Account : goal.returns-in-Account
returns-in-Account c = λ w ready.
    account_settles c.args.reference.now.authorization (pure_type c.args.reference.now.target) c.args.reference.now.to c.in-Account.field-0 (settled_of (Through c.args.shape)) (state_over w c.args.state.now)
    c.in-Account.is (ap (λ x. through x) (c.requires ∙ ap plain (reference_is c.args.reference.now)))

pub returns-in-Ok-true : goal.returns-in-Ok-true
returns-in-Ok-true c = λ w ready.
    controller_settles c.args.reference.now.authorization (pure_type c.args.reference.now.target) c.args.reference.now.to c.in-Controller.address c.in-Controller.id (settled_of (Through c.args.shape))
    (state_over w c.args.state.now) c.in-Controller.is (sym (c.in-Ok-true.ensures w) ∙ c.in-Ok-true.field-0-test) (ap (λ x. through x) (c.requires ∙ ap plain (reference_is c.args.reference.now)))

pub returns-in-Ok-false : goal.returns-in-Ok-false
returns-in-Ok-false c = λ w ready.
    no_controller_settles c.args.reference.now.authorization (pure_type c.args.reference.now.target) c.args.reference.now.to c.in-Controller.address c.in-Controller.id
    (state_over w c.args.state.now) c.in-Controller.is (sym (c.in-Ok-false.ensures w) ∙ c.in-Ok-false.field-0-test)
