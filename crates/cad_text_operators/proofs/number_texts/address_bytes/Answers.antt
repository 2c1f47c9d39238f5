use Rattle.std.proofs.Common.{ℕ, subst}
use Rattle.cad_evaluation.specs.Texts as spec
use Rattle.cad_outcomes.specs.Outcomes.{Gives}
use Rattle.cad_rows.specs.Views.{pure_tree}
use Rattle.cad_text_operators.proofs.number_texts.address_bytes.Goals as goal

pub returns : goal.returns
returns c = subst (λ (n : ℕ). Gives pure_tree (spec.bytes_tree (spec.big_endian 8 n)) c.big_endian_tree.result) c.from.ensures c.big_endian_tree.ensures
