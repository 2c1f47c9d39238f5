use Rattle.std.proofs.Common.{◌∙◌, ap, false}
use Rattle.cad_typing.specs.Literals.{fixed_kind, literal_of}
use Rattle.cad_infer_literals.proofs.literals.fixed_literal.Goals as goal

pub returns : goal.returns
returns c = c.literal_of.ensures ∙ ap (λ k. literal_of k false c.args.magnitude) (c.fixed_kind.ensures ∙ ap (fixed_kind false) c.expected_kind.ensures)
