-- Locations that are places of a node's row.
use Rattle.std.specs.Prelude.{◌≡◌, ℕ, suc, ℤ, pos, Some}
use Rattle.cad_values.specs.Values.{PureValue}
use Rattle.cad_world.specs.Locations.{Location, part, slot_of, changed_at, element_of, entry_of_key, key_position, keys_in}
use Rattle.cad_world.specs.Rows.{Row, Tree, slot, named}
use Rattle.cad_world.specs.State.{State, Action, ok}

-- the location is the place i of the node with the label l, whatever the next label is
pub record IsPlace (x : Location) (l i : ℕ) (s : State) : Type 0 where
  pub slot : slot_of x s ≡ slot_of (part l i) s
  pub changed : (g : ℕ → Row → Row) (n : ℕ) → changed_at g x (record s { next_label = n }) ≡ changed_at g (part l i) (record s { next_label = n })

-- the element z of the node is in its place i
pub record IsElement (z : ℤ) (i : ℕ) (t : Tree) : Type 0 where
  pub index : z ≡ pos i
  pub place : (s : State) → element_of z t.shape t.parts s ≡ ok (slot i t.parts) s

-- what stands under the key in the node is in its place i
pub record IsKey (k : PureValue) (i : ℕ) (t : Tree) : Type 0 where
  pub index : key_position k (keys_in t.shape) ≡ Some i
  pub place : (s : State) → entry_of_key k t.shape t.parts s ≡ ok (slot i t.parts) s

-- the node in the place is named
abbrev pub named_there : Location → Action ℕ
named_there x = λ s. ok s.next_label (changed_at (λ i. named i s.next_label) x (record s { next_label = suc s.next_label }))
