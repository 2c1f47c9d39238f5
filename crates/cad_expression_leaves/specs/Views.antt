-- What the code calls, and rows that it gives.
pub use Rattle.cad_boxed_trees.specs.Views.{items_row, tree_in}
use Rattle.cad_evaluation.specs.Callees as spec
use Rattle.cad_expression_leaves.specs.declared.callees.Callee.{Callee}
use Rattle.cad_expression_leaves.specs.declared.callees.Callee.TheVariants.{Method, Function, Initializer, DestroyedEvent}
use Rattle.cad_rows.specs.Views.{pure_row}
use Rattle.cad_rows.specs.declared.tree.Place.{Place}
use Rattle.cad_world.specs.Rows.{Row}
use Rattle.std.specs.declared.alloc.Global.{Global}
use Rattle.std.specs.declared.boxed.Box.{Box}
use Rattle.std.specs.declared.vec.Vec.{Vec}
use Rattle.std.specs.Prelude.{List, map}
use Rattle.cad_members.specs.Passed.{pure_pair}
use Rattle.cad_members.specs.Passed.{Pair}
use Rattle.cad_evaluation.specs.Uses as uses
use Rattle.cad_rows.specs.Views.{pure_tree}
use Rattle.cad_rows.specs.declared.tree.Tree.{Tree}
use Rattle.cad_world.specs.Rows as rows

abbrev pub callee_of : Callee → spec.Callee
callee_of (Method of name label) = spec.method of.now name.now label
callee_of (Function name) = spec.function name.now
callee_of (Initializer of label) = spec.initializer of.now label
callee_of (DestroyedEvent of label) = spec.destroyed_event of.now label

abbrev pub pairs_of : Vec Pair Global → List uses.Pair
pairs_of v = map pure_pair v.items

abbrev pub trees_of : Vec Tree Global → List rows.Tree
trees_of v = map pure_tree v.items
