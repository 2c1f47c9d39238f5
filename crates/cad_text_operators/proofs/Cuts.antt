-- A part of a text by places that are known by other names.
use Rattle.std.proofs.Common.{◌≡◌, ℕ, ℤ, List, Result, subst, ◌∙◌}
use Rattle.std.specs.Prelude.{unsigned_abs}
use Rattle.std.proofs.lemmas.Int.{to_z-of_z}
use mir.Syntax.{w128}
use mir.Val.{to_z, of_z, SFits}
use Rattle.cad_text.specs.Texts.{are_places, part}
use Rattle.cad_world.specs.Rows as rows
use Rattle.cad_world.specs.State.{Action, give, require}
use Rattle.cad_evaluation.specs.Texts.{text_tree}
use Rattle.cad_outcomes.specs.declared.stop.Stop.{Stop}
use Rattle.cad_outcomes.specs.Outcomes.{Gives}
use Rattle.cad_rows.specs.Views.{pure_tree}
use Rattle.cad_rows.specs.declared.tree.Tree.{Tree}

abbrev pub part_told : List ℕ → ℤ → ℤ → Action rows.Tree
part_told text i j = require 105 (are_places text i j) (give (text_tree (part text (unsigned_abs i) (unsigned_abs j))))

cut_at : (text : List ℕ) (i j p q : ℤ) (r : Result Tree Stop) → i ≡ p → j ≡ q → Gives pure_tree (part_told text i j) r → Gives pure_tree (part_told text p q) r
cut_at text i j p q r e f h = subst (λ (z : ℤ). Gives pure_tree (part_told text p z) r) f (subst (λ (z : ℤ). Gives pure_tree (part_told text z j) r) e h)

-- places that were passed on
pub cut_passed : (text : List ℕ) (i j p q : ℤ) (r : Result Tree Stop) → SFits w128 i → SFits w128 j → i ≡ p → j ≡ q
    → Gives pure_tree (part_told text (to_z w128 (of_z w128 i)) (to_z w128 (of_z w128 j))) r → Gives pure_tree (part_told text p q) r
cut_passed text i j p q r f g e h given =
    cut_at text (to_z w128 (of_z w128 i)) (to_z w128 (of_z w128 j)) p q r (to_z-of_z w128 i f ∙ e) (to_z-of_z w128 j g ∙ h) given
