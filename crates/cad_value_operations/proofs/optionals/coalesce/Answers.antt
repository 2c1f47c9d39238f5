use Rattle.cad_outcomes.specs.Outcomes.{Gives}
use Rattle.cad_rows.specs.Views.{pure_tree}
use Rattle.std.proofs.Common.{Bool, subst, sym}
use Rattle.std.specs.Prelude.{option_map}
use Rattle.cad_value_operations.specs.Optionals.{left_or_none}
use Rattle.cad_value_operations.proofs.optionals.coalesce.Goals as goal

pub returns-then-takes : goal.returns-then-takes
returns-then-takes c = subst (λ (b : Bool). Gives (λ o. option_map (λ t. pure_tree t) o) (left_or_none b (pure_tree c.args.tree)) c.open.result) (sym c.if-takes.true) c.open.ensures
