-- The way to a node: its index in a row, then the index in its own row, and so on.
use Rattle.std.specs.Prelude.{ℕ, zero, suc, List, [], ◌∷◌, ◌++◌, Option, Some, None, if◌then◌else◌}
use Rattle.cad_world.specs.Rows.{Row, stop, gap, node, Found, is_one_of, either}
use Rattle.cad_rows.specs.Views.{PlaceView, vacant, taken, pure_tree}
use Rattle.cad_rows.specs.declared.found.Node.{Node}

-- a node of the program, with its labels
abbrev pub pure_node : Node → Found
pure_node x = record { labels = x.labels.now; tree = pure_tree x.tree.now }

abbrev pub node_of_place : PlaceView → Option Found
node_of_place vacant = None
node_of_place (taken l t) = Some (record { labels = l; tree = t })

-- the node at an index
abbrev pub node_in : ℕ → Row → Option Found
node_in i stop = None
node_in zero (gap r) = None
node_in zero (node l n s k r) = Some (record { labels = l; tree = record { optionals = n; shape = s; parts = k } })
node_in (suc i) (gap r) = node_in i r
node_in (suc i) (node l n s k r) = node_in i r

abbrev pub below : (Row → Option Found) → Option Found → Option Found
below f None = None
below f (Some x) = f x.tree.parts

-- the node at a way
abbrev pub node_at : List ℕ → Row → Option Found
node_at [] r = None
node_at (i ∷ []) r = node_in i r
node_at (i ∷ j ∷ way) r = below (λ k. node_at (j ∷ way) k) (node_in i r)

abbrev pub further : ℕ → Option (List ℕ) → Option (List ℕ)
further i None = None
further i (Some way) = Some (way ++ i ∷ [])

-- the way to the first node with a label, from its end on; i is the index of the row's first place
abbrev pub way_from : ℕ → ℕ → Row → Option (List ℕ)
way_from p i stop = None
way_from p i (gap r) = way_from p (suc i) r
way_from p i (node l n s k r) = either (if is_one_of p l then Some (i ∷ []) else further i (way_from p 0 k)) (way_from p (suc i) r)

abbrev pub way_in : ℕ → ℕ → PlaceView → Option (List ℕ)
way_in p i vacant = None
way_in p i (taken l t) = if is_one_of p l then Some (i ∷ []) else further i (way_from p 0 t.parts)
