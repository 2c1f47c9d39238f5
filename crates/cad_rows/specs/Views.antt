-- What rows and trees of the program are: a row of places and a node of the definition of a run.
use Rattle.std.specs.Prelude.{ℕ, List, [], ◌∷◌, map}
use Rattle.cad_syntax.specs.Types.{pure_type}
use Rattle.cad_values.specs.Values.{pure_value}
use Rattle.cad_world.specs.Rows as r
use Rattle.cad_rows.specs.declared.tree.Shape.{Shape}
use Rattle.cad_rows.specs.declared.tree.Shape.TheVariants as shape
use Rattle.cad_rows.specs.declared.tree.Tree.{Tree, Tree-F, fold-Tree}
use Rattle.cad_rows.specs.declared.tree.Place.{Place, Place-F, fold-Place}

-- a place without the places after it
pub data PlaceView : Type 0 where
  vacant : PlaceView
  -- the labels of the node, and the node
  taken : List ℕ → r.Tree → PlaceView

-- this place before a row
abbrev pub before : PlaceView → r.Row → r.Row
before vacant row = r.gap row
before (taken l t) row = r.node l t.optionals t.shape t.parts row

abbrev pub as_row : List PlaceView → r.Row
as_row [] = r.stop
as_row (p ∷ ps) = before p (as_row ps)

abbrev pub pure_shape : Shape → r.NodeShape
pure_shape (shape.Plain v) = r.plain (pure_value v)
pure_shape (shape.Link a l n) = r.link a l n
pure_shape (shape.Array t) = r.array (pure_type t)
pure_shape (shape.Dictionary k t ks) = r.dictionary (pure_type k) (pure_type t) (map pure_value ks)
pure_shape (shape.Composite id n fs) = r.composite id n fs

abbrev pub tree_step : Tree-F PlaceView r.Tree → r.Tree
tree_step t = record { optionals = t.optionals; shape = pure_shape t.shape; parts = as_row t.parts.items }

abbrev pub place_step : Place-F PlaceView r.Tree → PlaceView
place_step Place-F.Empty = vacant
place_step (Place-F.Full l t) = taken l t

abbrev pub pure_tree : Tree → r.Tree
pure_tree = fold-Tree PlaceView r.Tree place_step tree_step

abbrev pub pure_place : Place → PlaceView
pure_place = fold-Place PlaceView r.Tree place_step tree_step

-- the row of these places
abbrev pub pure_row : List Place → r.Row
pure_row ps = as_row (map pure_place ps)
