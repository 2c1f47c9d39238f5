use Rattle.cad_capabilities.specs.Views.{capability_of}
use Rattle.cad_rows.specs.Views.{pure_tree}
use Rattle.cad_services.specs.Code.Services.{value_member}
use Rattle.cad_services.specs.declared.groups.ValueMember.{ValueMember}
use Rattle.cad_services.specs.declared.groups.ValueMember.TheVariants.{Home, Number}
use Rattle.cad_state.proofs.Finding.{find_given}
use Rattle.cad_state.specs.Views.{FindsAndCarriesOut}
use Rattle.std.proofs.Common.{subst, sym}
use Rattle.cad_services.proofs.values.member_of.Goals as goal

pub returns-in-Number : goal.returns-in-Number
returns-in-Number c = subst (λ (m : ValueMember). FindsAndCarriesOut pure_tree (value_member m (capability_of c.args.cap.now)) c.args.state.now c.args.state.now c.read_number.result) (sym c.in-Number.is)
    (find_given pure_tree (value_member Number (capability_of c.args.cap.now)) c.args.state.now c.read_number.result c.read_number.ensures)

pub returns-in-Home : goal.returns-in-Home
returns-in-Home c = subst (λ (m : ValueMember). FindsAndCarriesOut pure_tree (value_member m (capability_of c.args.cap.now)) c.args.state.now c.args.state.now c.read_home.result) (sym c.in-Home.is)
    (find_given pure_tree (value_member Home (capability_of c.args.cap.now)) c.args.state.now c.read_home.result c.read_home.ensures)

pub returns-in-Borrow : goal.returns-in-Borrow
returns-in-Borrow c = subst (λ (m : ValueMember). FindsAndCarriesOut pure_tree (value_member m (capability_of c.args.cap.now)) c.args.state.now c.lend.new.state c.lend.result) (sym c.in-Borrow.is)
    c.lend.ensures

pub returns-in-Check : goal.returns-in-Check
returns-in-Check c = subst (λ (m : ValueMember). FindsAndCarriesOut pure_tree (value_member m (capability_of c.args.cap.now)) c.args.state.now c.lends.new.state c.lends.result) (sym c.in-Check.is)
    c.lends.ensures
