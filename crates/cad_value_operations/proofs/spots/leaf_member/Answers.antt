use Rattle.cad_receivers.specs.Views.{spot_of}
use Rattle.cad_rows.specs.Views.{pure_row, pure_tree}
use Rattle.cad_value_operations.proofs.SpotLaws.{leaf_told}
use Rattle.cad_value_operations.proofs.spots.leaf_member.Goals as goal

pub returns-in-Ok : goal.returns-in-Ok
returns-in-Ok c = leaf_told c.args.group (spot_of c.args.spot).tree (pure_tree c.in-Ok.tree) (pure_row c.args.row.now) c.leaf-given.result c.in-Ok.ensures c.leaf-given.ensures
