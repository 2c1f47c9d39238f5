use Rattle.cad_evaluation.specs.Texts.{text_tree}
use Rattle.cad_outcomes.specs.Outcomes.{Gives}
use Rattle.cad_rows.specs.Views.{pure_tree}
use Rattle.cad_world.specs.State.{give, with_some}
use Rattle.std.proofs.Common.{List, Option, subst, ℕ}
use Rattle.cad_value_operations.proofs.leaves.on_character.Goals as goal

pub returns-in-Some : goal.returns-in-Some
returns-in-Some c = λ row. subst (λ (o : Option (List ℕ)). Gives pure_tree (with_some o (λ text. give (text_tree text))) c.text_copy.result) c.in-Some.ensures c.text_copy.ensures
