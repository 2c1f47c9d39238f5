use Rattle.std.proofs.Common.{◌∙◌, ap}
use Rattle.cad_syntax.specs.Types.{pure_type}
use Rattle.cad_declarations.specs.Typed.{binary}
use Rattle.cad_declarations.specs.Views.{term_of}
use Rattle.cad_typing.specs.Environments.{typed}
use Rattle.cad_infer_terms.proofs.terms.of_left_type.Goals as goal

pub returns-in-Ok : goal.returns-in-Ok
returns-in-Ok c = c.typed.ensures ∙ ap (λ t. typed t (pure_type c.args.x.declared)) (c.in-Ok.ensures ∙ ap (λ t. binary c.args.operator (term_of c.args.x.term) (term_of t)) c.into_term.ensures)
