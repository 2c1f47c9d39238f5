use Rattle.std.proofs.Common.{◌≡◌, subst}
use Rattle.std.specs.Prelude.{IfOk}
use Rattle.cad_declarations.specs.Typed.{TermTree, conditional}
use Rattle.cad_declarations.specs.Views.{term_of}
use Rattle.cad_infer_terms.proofs.terms.conditional_term.Goals as goal

pub returns-in-Ok : goal.returns-in-Ok
returns-in-Ok c =
    let P : TermTree → Type 0 = λ made. IfOk c.before_parts.result (λ t. term_of t ≡ made) in
    subst P (λ i. conditional (term_of c.args.test) (term_of (c.in-Ok.ensures.left i)) (term_of (c.in-Ok.ensures.right i))) c.before_parts.ensures
