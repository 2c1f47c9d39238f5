use Rattle.cad_outcomes.specs.Outcomes.{Gives}
use Rattle.cad_rows.specs.Views.{pure_row, pure_tree}
use Rattle.cad_value_operations.specs.Code.Members.{text_member}
use Rattle.cad_world.specs.State.{with_some}
use Rattle.std.proofs.Common.{List, Option, subst, ℕ}
use Rattle.cad_value_operations.proofs.leaves.on_text.Goals as goal

pub returns-in-Some : goal.returns-in-Some
returns-in-Some c = subst (λ (o : Option (List ℕ)). Gives pure_tree (with_some o (λ text. text_member c.args.member text (pure_row c.args.row.now))) c.of_text.result) c.in-Some.ensures c.of_text.ensures
