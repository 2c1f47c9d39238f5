use Rattle.std.proofs.Common.{ap, sym, ◌∙◌}
use Rattle.cad_capabilities.specs.Code.{lent_reference}
use Rattle.cad_capabilities.specs.Views.{capability_of, lent_of}
use Rattle.cad_evaluation.specs.Capabilities.{lent_as}
use Rattle.cad_state.proofs.Finding.{find_same}
use Rattle.cad_state.specs.Views.{state_over}
use Rattle.cad_syntax.specs.Types.{pure_type, reference}
use Rattle.cad_syntax.specs.declared.types.CadType.{CadType}
use Rattle.cad_capabilities.proofs.lending.lend_as.Goals as goal

pub returns-in-Reference : goal.returns-in-Reference
returns-in-Reference c =
    let x = capability_of c.args.cap.now in
    let name = c.args.name.now in
    let own = c.in-Reference.own in
    find_same lent_of (lent_as x name x.lent) (lent_reference x.address name own (pure_type c.deref.result.now)) c.args.state.now c.lend_reference.new.state c.lend_reference.result
    (λ w ready.
    let s = state_over w c.args.state.now in
    ap (λ (t : CadType). lent_as x name (pure_type t) s) c.in-Reference.is ∙ ap (λ (t : CadType). lent_as x name (reference own (pure_type t)) s) (sym c.deref.ensures))
    c.lend_reference.ensures
