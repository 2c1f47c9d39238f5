use Rattle.std.proofs.Common.{List, ℕ, ◌+◌, ◌++◌, length, nat_le, refl}
use Rattle.cad_evaluation.specs.Texts as spec
use Rattle.cad_rows.specs.Views.{pure_tree}
use Rattle.cad_text.specs.Texts.{most_bytes}
use Rattle.cad_world.specs.State.{give, require}
use Rattle.cad_operators.proofs.Kept.{with_this}
use Rattle.cad_text_operators.proofs.texts.text_joined.Goals as goal

pub returns-in-Some : goal.returns-in-Some
returns-in-Some c =
    let text = c.args.text.now in
    with_this pure_tree (λ (o : List ℕ). require 123 (nat_le (length text + length o) most_bytes) (give (spec.text_tree (text ++ o))))
    (spec.text_in (pure_tree c.args.other.now)) c.in-Some.behind.now _ c.joined.result c.in-Some.ensures refl c.joined.ensures
