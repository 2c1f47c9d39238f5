use Rattle.std.proofs.Common.{◌∙◌, ap}
use Rattle.cad_typing.specs.Types.{void}
use Rattle.cad_typing.specs.Environments.{typed}
use Rattle.cad_infer_terms.proofs.terms.destroy_typed.Goals as goal

pub returns : goal.returns
returns c = c.typed.ensures ∙ ap (λ t. typed t void) c.in_ok-term.ensures
