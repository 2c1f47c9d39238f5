use Rattle.std.proofs.Common.{◌∙◌, ap, true}
use Rattle.cad_typing.specs.Literals.{fixed_kind, signed_literal}
use Rattle.cad_infer_literals.proofs.literals.signed_fixed.Goals as goal

pub returns : goal.returns
returns c = c.signed_literal.ensures ∙ ap (λ k. signed_literal k c.args.magnitude) (c.fixed_kind.ensures ∙ ap (fixed_kind true) c.expected_kind.ensures)
