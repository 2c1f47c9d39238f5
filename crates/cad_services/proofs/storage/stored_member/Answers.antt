use Rattle.cad_rows.specs.Views.{pure_row, pure_tree}
use Rattle.cad_services.specs.Code.Services.{stored_member}
use Rattle.cad_services.specs.declared.groups.StoredMember.{StoredMember}
use Rattle.cad_state.specs.Views.{FindsAndCarriesOut}
use Rattle.cad_syntax.specs.Types.{pure_type}
use Rattle.std.proofs.Common.{subst, sym}
use Rattle.cad_services.proofs.storage.stored_member.Goals as goal

pub returns-in-Load : goal.returns-in-Load
returns-in-Load c = subst (λ (m : StoredMember). FindsAndCarriesOut pure_tree (stored_member m (pure_type c.args.wanted.now) (pure_row c.args.row.now) c.args.address) c.args.state.now c.load.new.state c.load.result) (sym c.in-Load.is)
    c.load.ensures

pub returns-in-Copy : goal.returns-in-Copy
returns-in-Copy c = subst (λ (m : StoredMember). FindsAndCarriesOut pure_tree (stored_member m (pure_type c.args.wanted.now) (pure_row c.args.row.now) c.args.address) c.args.state.now c.copy.new.state c.copy.result) (sym c.in-Copy.is)
    c.copy.ensures

pub returns-in-Borrow : goal.returns-in-Borrow
returns-in-Borrow c = subst (λ (m : StoredMember). FindsAndCarriesOut pure_tree (stored_member m (pure_type c.args.wanted.now) (pure_row c.args.row.now) c.args.address) c.args.state.now c.borrow.new.state c.borrow.result) (sym c.in-Borrow.is)
    c.borrow.ensures

pub returns-in-Check : goal.returns-in-Check
returns-in-Check c = subst (λ (m : StoredMember). FindsAndCarriesOut pure_tree (stored_member m (pure_type c.args.wanted.now) (pure_row c.args.row.now) c.args.address) c.args.state.now c.check.new.state c.check.result) (sym c.in-Check.is)
    c.check.ensures
