use Rattle.cad_rows.specs.Views.{pure_tree}
use Rattle.cad_shapes.specs.Held.{shapes_of}
use Rattle.cad_world_checks.proofs.Resources.{alone_is}
use Rattle.cad_world_checks.proofs.identities.has_identities.Goals as goal

pub returns : goal.returns
returns c = alone_is (shapes_of c.args.shapes.now) (pure_tree c.args.tree.now) c.tree_has_identities.result c.tree_has_identities.ensures
