use Rattle.std.proofs.Common.{◌∙◌, ap, false}
use Rattle.cad_typing.specs.Literals.{whole_kind, literal_of}
use Rattle.cad_infer_literals.proofs.literals.whole_literal.Goals as goal

pub returns : goal.returns
returns c = c.literal_of.ensures ∙ ap (λ k. literal_of k false c.args.magnitude) (c.whole_kind.ensures ∙ ap (whole_kind c.args.is_hexadecimal) c.expected_kind.ensures)
