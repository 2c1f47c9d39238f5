use Rattle.std.proofs.Common.{◌∙◌, ap}
use Rattle.cad_declarations.specs.Typed.{conditional}
use Rattle.cad_declarations.specs.Views.{term_of}
use Rattle.cad_infer_terms.proofs.terms.before_parts.Goals as goal

pub returns-in-Ok : goal.returns-in-Ok
returns-in-Ok c = c.conditional_of.ensures ∙ ap (λ t. conditional (term_of t) (term_of c.args.x.value) (term_of c.args.y.value)) c.in-Ok.ensures
