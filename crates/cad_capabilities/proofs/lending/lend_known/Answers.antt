use Rattle.std.proofs.Common.{Option, ap, sym, ◌∙◌}
use Rattle.cad_capabilities.specs.Views.{capability_of, lent_of}
use Rattle.cad_evaluation.specs.Capabilities.{lent_as, lent_at, lent_by}
use Rattle.cad_state.proofs.Finding.{find_same}
use Rattle.cad_state.specs.Views.{state_over}
use Rattle.cad_syntax.specs.declared.text.Name.{Name}
use Rattle.cad_capabilities.proofs.lending.lend_known.Goals as goal

pub returns-in-Ok-Some : goal.returns-in-Ok-Some
returns-in-Ok-Some c =
    let x = capability_of c.args.cap.now in
    find_same lent_of (lent_by x) (lent_as x c.in-Ok-Some.name x.lent) c.args.state.now c.lend_as.new.state c.lend_as.result
    (λ w ready. ap (λ (o : Option Name). lent_at x o (state_over w c.args.state.now)) (sym (sym c.in-Ok-Some.field-0-is ∙ c.in-Ok-Some.ensures w)))
    c.lend_as.ensures

pub returns-in-Ok-None : goal.returns-in-Ok-None
returns-in-Ok-None c = λ w ready.
    ap (λ (o : Option Name). lent_at (capability_of c.args.cap.now) o (state_over w c.args.state.now)) (sym (sym c.in-Ok-None.field-0-is ∙ c.in-Ok-None.ensures w))
