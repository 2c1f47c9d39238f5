use Rattle.std.proofs.Common.{ap, sym}
use Rattle.cad_capabilities.specs.Code.{borrowed_under}
use Rattle.cad_capabilities.specs.Views.{capability_of}
use Rattle.cad_evaluation.specs.Capabilities.{Capability, lend}
use Rattle.cad_rows.specs.Views.{pure_tree}
use Rattle.cad_state.proofs.Finding.{find_same}
use Rattle.cad_state.specs.Views.{state_over}
use Rattle.cad_syntax.specs.Types.{pure_type}
use Rattle.cad_capabilities.proofs.getting.borrow_under.Goals as goal

pub returns-in-Ok : goal.returns-in-Ok
returns-in-Ok c =
    let x = capability_of c.in-Ok.cap in
    find_same pure_tree (borrowed_under c.args.address (pure_type c.args.wanted.now) c.args.name.now) (lend x) c.args.state.now c.lend.new.state c.lend.result
    (λ w ready. ap (λ (y : Capability). lend y (state_over w c.args.state.now)) (sym (c.in-Ok.ensures w)))
    c.lend.ensures
