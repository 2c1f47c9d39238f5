use Rattle.std.proofs.Common.{◌∙◌, ap, refl}
use Rattle.cad_syntax.specs.Kinds.{is_kept}
use Rattle.cad_typing.specs.Literals.{number_if}
use Rattle.cad_infer_literals.proofs.literals.number_of.Goals as goal

pub returns : goal.returns
returns c =
    let kind = c.args.kind in
    let magnitude = c.args.magnitude in
    c.number_with.ensures ∙ ap (λ s. number_if kind s magnitude (is_kept kind s magnitude) refl) c.sign_of.ensures
