use Rattle.cad_receivers.specs.Views.{at_spot, settled_of}
use Rattle.cad_rows.specs.Views.{pure_row, pure_tree}
use Rattle.cad_services.specs.Code.Services.{by_group}
use Rattle.cad_services.specs.declared.groups.Group.{Group}
use Rattle.cad_state.specs.Views.{FindsAndCarriesOut}
use Rattle.std.proofs.Common.{subst, sym}
use Rattle.cad_services.proofs.services.of_other.Goals as goal

pub returns-in-Address : goal.returns-in-Address
returns-in-Address c = λ front calls b types.
    subst (λ (g : Group). FindsAndCarriesOut pure_tree (at_spot (settled_of c.args.receiver) (λ spot. by_group front calls b types spot (pure_row c.args.row.now) g)) c.args.state.now c.args.state.now c.read_address.result) (sym c.in-Address.is) c.read_address.ensures

pub returns-in-Part : goal.returns-in-Part
returns-in-Part c = λ front calls b types.
    subst (λ (g : Group). FindsAndCarriesOut pure_tree (at_spot (settled_of c.args.receiver) (λ spot. by_group front calls b types spot (pure_row c.args.row.now) g)) c.args.state.now c.args.state.now c.read_part.result) (sym c.in-Part.is) c.read_part.ensures

pub returns-in-Controller : goal.returns-in-Controller
returns-in-Controller c = λ front calls b types.
    subst (λ (g : Group). FindsAndCarriesOut pure_tree (at_spot (settled_of c.args.receiver) (λ spot. by_group front calls b types spot (pure_row c.args.row.now) g)) c.args.state.now c.controller_member.new.state c.controller_member.result) (sym c.in-Controller.is) c.controller_member.ensures

pub returns-in-Value : goal.returns-in-Value
returns-in-Value c = λ front calls b types.
    subst (λ (g : Group). FindsAndCarriesOut pure_tree (at_spot (settled_of c.args.receiver) (λ spot. by_group front calls b types spot (pure_row c.args.row.now) g)) c.args.state.now c.value_member.new.state c.value_member.result) (sym c.in-Value.is) c.value_member.ensures
