-- The nodes whose end is told, place by place.
use Rattle.std.specs.Prelude.{ℕ, suc, ◌+◌, Bool, false, List, [], ◌∷◌, length}
use Rattle.cad_syntax.specs.declared.type_id.TypeId.{TypeId}
use Rattle.cad_world.specs.Declared.{bodies_of}
use Rattle.cad_world.specs.Rows.{NodeShape, composite, Tree}
use Rattle.cad_world.specs.State.{Action, ok, ◌>>◌, give}
use Rattle.cad_evaluation.specs.Ending.{has_event, passing, label_if, one_if, numbered, set_aside}
use Rattle.cad_access.specs.RunContracts.{run_of}
use Rattle.cad_rows.specs.Views.{PlaceView, vacant, taken, before, as_row}
use Rattle.cad_state.specs.declared.state.RunState.{RunState}
use Rattle.cad_making.specs.Dying.{Dying, end_of}

-- a resource whose end is told, by what the contracts of a run declare
abbrev pub told_in : RunState → NodeShape → Bool
told_in x (composite id (suc i) names) = has_event (bodies_of (run_of x) id)
told_in x shape = false

-- the nodes inside a node have their labels, from one on
abbrev pub numbered_tree : (NodeShape → Bool) → ℕ → Tree → Tree
numbered_tree test p t = record { optionals = t.optionals; shape = t.shape; parts = numbered test p t.parts }

-- those of a place
abbrev pub numbered_place : (NodeShape → Bool) → ℕ → PlaceView → PlaceView
numbered_place test p vacant = vacant
numbered_place test p (taken l t) = taken (label_if (test t.shape) p l) (numbered_tree test (p + one_if (test t.shape)) t)

-- the types of the nodes of a place whose end is told, and how many they are
abbrev pub types_in : (NodeShape → Bool) → PlaceView → List TypeId
types_in test v = passing test (as_row (v ∷ []))

abbrev pub count_of : (NodeShape → Bool) → PlaceView → ℕ
count_of test v = length (types_in test v)

-- what stands in a place is named and stands first among what is made
abbrev pub stood_first : (NodeShape → Bool) → PlaceView → Action (Unit {0})
stood_first test v = λ s. ok tt (record s { making = before (numbered_place test s.next_label v) s.making; next_label = s.next_label + count_of test v })

-- the same, with what its end wants
abbrev pub placed_aside : (NodeShape → Bool) → PlaceView → List ℕ → Action Dying
placed_aside test v identities = λ s. (stood_first test v >> give (record { first_label = s.next_label; types = types_in test v; identities = identities })) s

-- of a tree that stands in no place yet
abbrev pub tree_aside : Tree → Action Dying
tree_aside t = λ s. (set_aside t >> give (end_of s t)) s
