use Rattle.cad_rows.specs.Views.{pure_row, pure_tree}
use Rattle.cad_services.specs.Code.Services.{capabilities_member}
use Rattle.cad_services.specs.declared.groups.CapabilitiesMember.{CapabilitiesMember}
use Rattle.cad_services.specs.declared.groups.CapabilitiesMember.TheVariants.{Exists, GetController, Publish, Unpublish}
use Rattle.cad_state.proofs.Finding.{find_any}
use Rattle.cad_state.specs.Views.{FindsAndCarriesOut}
use Rattle.cad_syntax.specs.Types.{pure_type}
use Rattle.std.proofs.Common.{map, subst, sym}
use Rattle.cad_services.proofs.capabilities.capabilities_member.Goals as goal

pub returns-in-Exists : goal.returns-in-Exists
returns-in-Exists c = subst (λ (m : CapabilitiesMember). FindsAndCarriesOut pure_tree (capabilities_member m (map (λ t. pure_type t) c.args.types.now) (pure_row c.args.row.now) c.args.address) c.args.state.now c.args.state.now c.exists.result) (sym c.in-Exists.is)
    (find_any pure_tree (capabilities_member Exists (map (λ t. pure_type t) c.args.types.now) (pure_row c.args.row.now) c.args.address) c.args.state.now c.args.state.now c.exists.result c.exists.ensures)

pub returns-in-Publish : goal.returns-in-Publish
returns-in-Publish c = subst (λ (m : CapabilitiesMember). FindsAndCarriesOut pure_tree (capabilities_member m (map (λ t. pure_type t) c.args.types.now) (pure_row c.args.row.now) c.args.address) c.args.state.now c.publish.new.state c.publish.result) (sym c.in-Publish.is)
    (find_any pure_tree (capabilities_member Publish (map (λ t. pure_type t) c.args.types.now) (pure_row c.args.row.now) c.args.address) c.args.state.now c.publish.new.state c.publish.result c.publish.ensures)

pub returns-in-Unpublish : goal.returns-in-Unpublish
returns-in-Unpublish c = subst (λ (m : CapabilitiesMember). FindsAndCarriesOut pure_tree (capabilities_member m (map (λ t. pure_type t) c.args.types.now) (pure_row c.args.row.now) c.args.address) c.args.state.now c.unpublish.new.state c.unpublish.result) (sym c.in-Unpublish.is)
    (find_any pure_tree (capabilities_member Unpublish (map (λ t. pure_type t) c.args.types.now) (pure_row c.args.row.now) c.args.address) c.args.state.now c.unpublish.new.state c.unpublish.result c.unpublish.ensures)

pub returns-in-GetController : goal.returns-in-GetController
returns-in-GetController c = subst (λ (m : CapabilitiesMember). FindsAndCarriesOut pure_tree (capabilities_member m (map (λ t. pure_type t) c.args.types.now) (pure_row c.args.row.now) c.args.address) c.args.state.now c.args.state.now c.get_controller.result) (sym c.in-GetController.is)
    (find_any pure_tree (capabilities_member GetController (map (λ t. pure_type t) c.args.types.now) (pure_row c.args.row.now) c.args.address) c.args.state.now c.args.state.now c.get_controller.result c.get_controller.ensures)

pub returns-in-Typed : goal.returns-in-Typed
returns-in-Typed c = subst (λ (m : CapabilitiesMember). FindsAndCarriesOut pure_tree (capabilities_member m (map (λ t. pure_type t) c.args.types.now) (pure_row c.args.row.now) c.args.address) c.args.state.now c.typed_member.new.state c.typed_member.result) (sym c.in-Typed.is)
    c.typed_member.ensures
