use Rattle.cad_evaluation.specs.Builtins.{paid_for}
use Rattle.cad_receivers.specs.Views.{at_spot, settled_of}
use Rattle.cad_rows.specs.Views.{pure_row, pure_tree}
use Rattle.cad_state.specs.Views.{FindsAndCarriesOut}
use Rattle.cad_value_operations.proofs.GroupLaws.{paid_group}
use Rattle.cad_value_operations.proofs.Looks.{looked_alike}
use Rattle.cad_value_operations.specs.Code.Members.{read_by, spot_member}
use Rattle.cad_value_operations.specs.declared.groups.Group.{Group}
use Rattle.cad_world.specs.Receivers.{look_at}
use Rattle.std.proofs.Common.{subst, sym}
use Rattle.cad_members.proofs.members.member_read.Goals as goal

pub returns-in-Identity : goal.returns-in-Identity
returns-in-Identity c =
    subst (λ (k : Group). FindsAndCarriesOut pure_tree (at_spot (settled_of c.args.receiver) (λ spot. read_by spot (pure_row c.args.row.now) k)) c.args.state.now c.args.state.now c.uuid.result) (sym c.in-Identity.is) c.uuid.ensures

pub returns-in-Owner : goal.returns-in-Owner
returns-in-Owner c =
    subst (λ (k : Group). FindsAndCarriesOut pure_tree (at_spot (settled_of c.args.receiver) (λ spot. read_by spot (pure_row c.args.row.now) k)) c.args.state.now c.args.state.now c.owner.result) (sym c.in-Owner.is) c.owner.ensures

pub returns-in-Account : goal.returns-in-Account
returns-in-Account c =
    subst (λ (k : Group). FindsAndCarriesOut pure_tree (at_spot (settled_of c.args.receiver) (λ spot. read_by spot (pure_row c.args.row.now) k)) c.args.state.now c.args.state.now c.account.result) (sym c.in-Account.is) c.account.ensures

pub returns-in_default : goal.returns-in_default
returns-in_default c =
    let row = pure_row c.args.row.now in
    looked_alike pure_tree (look_at (settled_of c.args.receiver)) (λ spot. read_by spot row c.args.group) (λ spot. paid_for 0 (spot_member c.args.group spot row)) c.args.state.now c.paid_member.new.state c.paid_member.result
    (λ spot s. paid_group spot row c.args.group s c.in_default.not-Identity c.in_default.not-Owner c.in_default.not-Account) c.paid_member.ensures
