use Rattle.std.proofs.Common.{ℕ, Option, option_and_then, subst, ◌∙◌, sym}
use Rattle.cad_evaluation.specs.Texts.{int_tree, optional_tree}
use Rattle.cad_outcomes.specs.Outcomes.{Gives}
use Rattle.cad_rows.specs.Views.{pure_tree}
use Rattle.cad_world.specs.State.{give}
use Rattle.cad_containers.proofs.arrays.first_index.Goals as goal

pub returns-in-Ok-Some : goal.returns-in-Ok-Some
returns-in-Ok-Some c =
    subst (λ (o : Option ℕ). Gives pure_tree (give (optional_tree (option_and_then int_tree o))) c.found_index.result) (sym c.in-Ok-Some.field-0-is ∙ c.in-Ok-Some.ensures) c.found_index.ensures
