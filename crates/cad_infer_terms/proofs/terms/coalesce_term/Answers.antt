use Rattle.std.proofs.Common.{◌∙◌}
use Rattle.cad_syntax.specs.Types.{pure_type}
use Rattle.cad_declarations.specs.Typed.{coalesce}
use Rattle.cad_declarations.specs.Views.{term_of}
use Rattle.cad_infer_terms.proofs.terms.coalesce_term.Goals as goal

pub returns-in-Ok : goal.returns-in-Ok
returns-in-Ok c = c.coalesce_of.ensures ∙ (λ i. coalesce (term_of (c.in-Ok.ensures.left i)) (term_of (c.in-Ok.ensures.right i)) c.args.takes_off (pure_type c.args.declared))
