use Rattle.std.proofs.Common.{◌∙◌, ap}
use Rattle.cad_typing.specs.Literals.{whole_kind, signed_literal}
use Rattle.cad_infer_literals.proofs.literals.signed_whole.Goals as goal

pub returns : goal.returns
returns c = c.signed_literal.ensures ∙ ap (λ k. signed_literal k c.args.magnitude) (c.whole_kind.ensures ∙ ap (whole_kind c.args.is_hexadecimal) c.expected_kind.ensures)
