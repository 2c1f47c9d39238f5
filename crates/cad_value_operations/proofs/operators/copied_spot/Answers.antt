use Rattle.cad_receivers.specs.Views.{spot_of}
use Rattle.cad_rows.specs.Views.{pure_tree}
use Rattle.cad_value_operations.proofs.SpotLaws.{copy_kept, copy_refused}
use Rattle.cad_value_operations.proofs.operators.copied_spot.Goals as goal

pub returns-then-owns : goal.returns-then-owns
returns-then-owns c = λ s. copy_refused (spot_of c.args.spot).tree (pure_tree c.in-Ok.tree) c.owns.result s c.in-Ok.ensures c.owns.ensures c.if-owns.true

pub returns-else-owns : goal.returns-else-owns
returns-else-owns c = λ s. copy_kept (spot_of c.args.spot).tree (pure_tree c.in-Ok.tree) c.owns.result s c.in-Ok.ensures c.owns.ensures c.if-owns.false
