-- What stands on the heap.
use Rattle.std.specs.Prelude.{◌≡◌, Result, Ok, Err}
use Rattle.std.specs.declared.alloc.Global.{Global}
use Rattle.std.specs.declared.boxed.Box.{Box}
use Rattle.std.specs.declared.vec.Vec.{Vec}
use Rattle.cad_outcomes.specs.declared.stop.Stop.{Stop}
use Rattle.cad_outcomes.specs.declared.stop.Stop.TheVariants.{Memory}
use Rattle.cad_rows.specs.Views.{pure_row, pure_tree}
use Rattle.cad_rows.specs.declared.tree.Place.{Place}
use Rattle.cad_rows.specs.declared.tree.Tree as code
use Rattle.cad_world.specs.Rows.{Row, Tree}

-- the value that stands on the heap
abbrev pub tree_in : Box code.Tree Global → Tree
tree_in b = pure_tree b.value

abbrev pub items_row : Vec Place Global → Row
items_row v = pure_row v.items

-- what was found stands on the heap, or memory was wanting
abbrev pub Boxes : Result code.Tree Stop → Result (Box code.Tree Global) Stop → Type 0
Boxes (Ok t) (Ok b) = b.value ≡ t
Boxes (Ok t) (Err why) = why ≡ Memory
Boxes (Err why) (Ok b) = ⊥
Boxes (Err why) (Err same) = same ≡ why
