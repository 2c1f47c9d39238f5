-- Rows with a node's shape and parts exchanged.
use Rattle.std.specs.Prelude.{ℕ, zero, suc, List, [], ◌∷◌, Option, Some, None}
use Rattle.cad_world.specs.Rows.{NodeShape, Row, stop, gap, node, Tree, Found}
use Rattle.cad_rows.specs.Views.{PlaceView, vacant, taken}

-- the node at an index gets another shape and another row
abbrev pub reshaped : ℕ → NodeShape → Row → Row → Row
reshaped i s' k' stop = stop
reshaped zero s' k' (gap r) = gap r
reshaped zero s' k' (node l n s k r) = node l n s' k' r
reshaped (suc i) s' k' (gap r) = gap (reshaped i s' k' r)
reshaped (suc i) s' k' (node l n s k r) = node l n s k (reshaped i s' k' r)

-- the row of the node at an index is changed
abbrev pub within : ℕ → (Row → Row) → Row → Row
within i g stop = stop
within zero g (gap r) = gap r
within zero g (node l n s k r) = node l n s (g k) r
within (suc i) g (gap r) = gap (within i g r)
within (suc i) g (node l n s k r) = node l n s k (within i g r)

-- the node at a way gets another shape and another row; nothing changes where there is none
abbrev pub exchanged : List ℕ → NodeShape → Row → Row → Row
exchanged [] s k r = r
exchanged (i ∷ []) s k r = reshaped i s k r
exchanged (i ∷ j ∷ way) s k r = within i (λ q. exchanged (j ∷ way) s k q) r

-- of one node
abbrev pub reshaped_tree : NodeShape → Row → Tree → Tree
reshaped_tree s k t = record { optionals = t.optionals; shape = s; parts = k }

abbrev pub within_tree : (Row → Row) → Tree → Tree
within_tree g t = record { optionals = t.optionals; shape = t.shape; parts = g t.parts }

-- of one place
abbrev pub reshaped_place : NodeShape → Row → PlaceView → PlaceView
reshaped_place s k vacant = vacant
reshaped_place s k (taken l t) = taken l (reshaped_tree s k t)

abbrev pub within_place : (Row → Row) → PlaceView → PlaceView
within_place g vacant = vacant
within_place g (taken l t) = taken l (within_tree g t)

-- what a node had, or what there is where no node is
abbrev pub shape_of : NodeShape → Option Found → NodeShape
shape_of s None = s
shape_of s (Some x) = x.tree.shape

abbrev pub parts_of : Row → Option Found → Row
parts_of k None = k
parts_of k (Some x) = x.tree.parts

-- the node further down, of one place
abbrev pub below_place : (Row → Option Found) → PlaceView → Option Found
below_place f vacant = None
below_place f (taken l t) = f t.parts
