use Rattle.std.proofs.Common.{subst, sym}
use Rattle.cad_receivers.specs.Views.{at_spot, settled_of}
use Rattle.cad_rows.specs.Views.{pure_row, pure_tree}
use Rattle.cad_state.specs.Views.{FindsAndCarriesOut}
use Rattle.cad_value_operations.specs.Code.Members.{spot_member}
use Rattle.cad_value_operations.specs.declared.groups.Group.{Group}
use Rattle.cad_value_operations.proofs.spots.read_member.Goals as goal

pub returns-in-OwnType : goal.returns-in-OwnType
returns-in-OwnType c =
    subst (λ (k : Group). FindsAndCarriesOut pure_tree (at_spot (settled_of c.args.receiver) (λ spot. spot_member k spot (pure_row c.args.row.now))) c.args.state.now c.type_at.new.state c.type_at.result)
    (sym c.in-OwnType.is) c.type_at.ensures

pub returns-in-Instance : goal.returns-in-Instance
returns-in-Instance c =
    subst (λ (k : Group). FindsAndCarriesOut pure_tree (at_spot (settled_of c.args.receiver) (λ spot. spot_member k spot (pure_row c.args.row.now))) c.args.state.now c.instance_at.new.state c.instance_at.result)
    (sym c.in-Instance.is) c.instance_at.ensures

pub returns-in_default : goal.returns-in_default
returns-in_default c = c.member_here.ensures c.in_default.not-OwnType c.in_default.not-Instance
