use Rattle.cad_rows.specs.Views.{pure_row, pure_tree}
use Rattle.cad_services.specs.Code.Services.{lent_member}
use Rattle.cad_services.specs.declared.groups.LentMember.{LentMember}
use Rattle.cad_services.specs.declared.groups.LentMember.TheVariants.{Get, Issue}
use Rattle.cad_state.proofs.Finding.{find_any}
use Rattle.cad_state.specs.Views.{FindsAndCarriesOut}
use Rattle.cad_syntax.specs.Types.{pure_type}
use Rattle.std.proofs.Common.{subst, sym}
use Rattle.cad_services.proofs.capabilities.lent_member.Goals as goal

pub returns-in-Get : goal.returns-in-Get
returns-in-Get c = subst (λ (m : LentMember). FindsAndCarriesOut pure_tree (lent_member m (pure_type c.args.wanted.now) (pure_row c.args.row.now) c.args.address) c.args.state.now c.args.state.now c.get.result) (sym c.in-Get.is)
    (find_any pure_tree (lent_member Get (pure_type c.args.wanted.now) (pure_row c.args.row.now) c.args.address) c.args.state.now c.args.state.now c.get.result c.get.ensures)

pub returns-in-Borrow : goal.returns-in-Borrow
returns-in-Borrow c = subst (λ (m : LentMember). FindsAndCarriesOut pure_tree (lent_member m (pure_type c.args.wanted.now) (pure_row c.args.row.now) c.args.address) c.args.state.now c.borrow_published.new.state c.borrow_published.result) (sym c.in-Borrow.is)
    c.borrow_published.ensures

pub returns-in-Issue : goal.returns-in-Issue
returns-in-Issue c = subst (λ (m : LentMember). FindsAndCarriesOut pure_tree (lent_member m (pure_type c.args.wanted.now) (pure_row c.args.row.now) c.args.address) c.args.state.now c.issue.new.state c.issue.result) (sym c.in-Issue.is)
    (find_any pure_tree (lent_member Issue (pure_type c.args.wanted.now) (pure_row c.args.row.now) c.args.address) c.args.state.now c.issue.new.state c.issue.result c.issue.ensures)
