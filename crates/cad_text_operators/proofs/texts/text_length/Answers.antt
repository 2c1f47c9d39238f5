use Rattle.std.proofs.Common.{ℕ, ap, sym, ◌∙◌}
use Rattle.cad_evaluation.specs.Texts.{given_int}
use Rattle.cad_text_operators.proofs.texts.text_length.Goals as goal

pub returns : goal.returns
returns c = λ s. ap (λ (n : ℕ). given_int n s) (sym c.length.ensures) ∙ c.count_tree.ensures s
