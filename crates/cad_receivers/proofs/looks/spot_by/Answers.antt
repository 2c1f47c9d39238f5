use Rattle.std.proofs.Common.{ap, sym, ◌∙◌}
use Rattle.cad_casts.proofs.References.{reference_is}
use Rattle.cad_receivers.proofs.Targets.{account_looks, controller_looks, no_controller_looks, node_looks}
use Rattle.cad_receivers.specs.Views.{spot_of}
use Rattle.cad_rows.specs.Views.{pure_shape}
use Rattle.cad_state.specs.Views.{state_over}
use Rattle.cad_syntax.specs.Types.{pure_type}
use Rattle.cad_world.specs.Rows.{plain}
use Rattle.cad_receivers.proofs.looks.spot_by.Goals as goal

pub returns-in-Node : goal.returns-in-Node
returns-in-Node c = λ w ready.
    node_looks (pure_shape c.args.shape.now) c.args.reference.now.authorization (pure_type c.args.reference.now.target) c.args.reference.now.to c.in-Node.field-0 (state_over w c.args.state.now)
    (c.requires ∙ ap plain (reference_is c.args.reference.now)) c.in-Node.is

pub returns-in-Account : goal.returns-in-Account
returns-in-Account c = λ w ready.
    account_looks (pure_shape c.args.shape.now) c.args.reference.now.authorization (pure_type c.args.reference.now.target) c.args.reference.now.to c.in-Account.field-0 (spot_of c.reference_spot.result)
    (state_over w c.args.state.now) (c.requires ∙ ap plain (reference_is c.args.reference.now)) c.in-Account.is c.reference_spot.ensures

pub returns-in-Ok-true : goal.returns-in-Ok-true
returns-in-Ok-true c = λ w ready.
    controller_looks (pure_shape c.args.shape.now) c.args.reference.now.authorization (pure_type c.args.reference.now.target) c.args.reference.now.to c.in-Controller.address c.in-Controller.id
    (spot_of c.reference_spot-in-Ok-true.result) (state_over w c.args.state.now) (c.requires ∙ ap plain (reference_is c.args.reference.now)) c.in-Controller.is (sym (c.in-Ok-true.ensures w) ∙ c.in-Ok-true.field-0-test) c.reference_spot-in-Ok-true.ensures

pub returns-in-Ok-false : goal.returns-in-Ok-false
returns-in-Ok-false c = λ w ready.
    no_controller_looks (pure_shape c.args.shape.now) c.args.reference.now.authorization (pure_type c.args.reference.now.target) c.args.reference.now.to c.in-Controller.address c.in-Controller.id
    (state_over w c.args.state.now) (c.requires ∙ ap plain (reference_is c.args.reference.now)) c.in-Controller.is (sym (c.in-Ok-false.ensures w) ∙ c.in-Ok-false.field-0-test)
