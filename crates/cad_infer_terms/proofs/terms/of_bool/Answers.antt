use Rattle.std.proofs.Common.{◌∙◌, ap}
use Rattle.cad_declarations.specs.Typed.{binary}
use Rattle.cad_declarations.specs.Views.{term_of}
use Rattle.cad_typing.specs.Environments.{typed}
use Rattle.cad_typing.specs.Types.{bool}
use Rattle.cad_infer_terms.proofs.terms.of_bool.Goals as goal

pub returns : goal.returns
returns c = c.typed.ensures ∙ ap (λ t. typed t bool) (c.in_ok-whole.ensures ∙ (λ i. binary c.args.operator (term_of (c.into_term.ensures i)) (term_of (c.into_term-2.ensures i))))
