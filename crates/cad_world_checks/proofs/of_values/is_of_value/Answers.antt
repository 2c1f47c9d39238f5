use Rattle.cad_rows.specs.Views.{pure_tree}
use Rattle.cad_world_checks.proofs.OfValues.{of_value_by_test}
use Rattle.cad_world_checks.proofs.of_values.is_of_value.Goals as goal

pub returns : goal.returns
returns c = of_value_by_test c.tree_is_of_value.result (pure_tree c.args.tree.now) c.tree_is_of_value.ensures
