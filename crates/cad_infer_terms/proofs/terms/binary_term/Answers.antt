use Rattle.std.proofs.Common.{◌∙◌}
use Rattle.cad_declarations.specs.Typed.{binary}
use Rattle.cad_declarations.specs.Views.{term_of}
use Rattle.cad_infer_terms.proofs.terms.binary_term.Goals as goal

pub returns : goal.returns
returns c = c.binary_of.ensures ∙ (λ i. binary c.args.operator (term_of (c.in_ok-x.ensures.left i)) (term_of (c.in_ok-x.ensures.right i)))
