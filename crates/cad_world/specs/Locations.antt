-- Where a value stands in a running state, and the nodes that are named there.
use Rattle.std.specs.Prelude.{ℕ, suc, List, [], ◌∷◌, Option, Some, None, option_map, ℤ, pos, negsuc, if◌then◌else◌}
use Rattle.cad_syntax.specs.declared.text.Name.{Name}
use Rattle.cad_syntax.specs.declared.type_id.TypeId.{TypeId}
use Rattle.cad_values.specs.Values.{PureValue}
use Rattle.cad_world.specs.Rows.{NodeShape, array, dictionary, Row, Tree, Slot, out, free, full, slot, named, Found}
use Rattle.cad_world.specs.State.{State, Action, ok, ◌>>=◌, give, stuck, fail, or_fail}
use Rattle.cad_world.specs.Same.{same_key}
use Rattle.cad_world.specs.Labels.{at, with_node, with_account, stored_slot, on_stored, with_variables, variables, change_value, value_in}
use Rattle.cad_world.specs.Trees.{wrapped}

pub data Location : Type 0 where
  -- a variable of the newest call
  variable : ℕ → Location
  -- the value of a contract
  contract : TypeId → Location
  -- what an account stores under an identifier
  stored : ℕ → Name → Location
  -- the node with a label, without its optionals, which stays where it is
  receiver : ℕ → Location
  -- a field of a node: the label, and the place in its row
  part : ℕ → ℕ → Location
  -- an element of an array: the label, and the index
  element : ℕ → ℤ → Location
  -- what stands under a key of a dictionary: the label, and the key
  entry : ℕ → PureValue → Location

-- where a key stands among the keys of a dictionary
abbrev pub key_position : PureValue → List PureValue → Option ℕ
key_position key [] = None
key_position key (k ∷ ks) = if same_key key k then Some 0 else option_map suc (key_position key ks)

-- ---- what stands there

abbrev pub element_slot : ℤ → Row → Slot
element_slot (pos n) r = slot n r
element_slot (negsuc n) r = out

abbrev pub slot_at : Option ℕ → Row → Slot
slot_at None r = out
slot_at (Some i) r = slot i r

abbrev pub or_out_of_bounds : Slot → Action Slot
or_out_of_bounds out = fail 104
or_out_of_bounds x = give x

-- the place of an element, or 104
abbrev pub element_of : ℤ → NodeShape → Row → Action Slot
element_of i (array t) r = or_out_of_bounds (element_slot i r)
element_of i _ r = stuck

-- the place under a key
abbrev pub entry_of_key : PureValue → NodeShape → Row → Action Slot
entry_of_key key (dictionary k t ks) r = give (slot_at (key_position key ks) r)
entry_of_key key _ r = stuck

-- with the node of a label, 113 where it is gone
abbrev pub with_found : {A : Type 0} → ℕ → (Found → Action A) → Action A
with_found l f = λ s. or_fail 113 (at l s) f s

-- the place as it is now
abbrev pub slot_of : Location → Action Slot
slot_of (variable x) = λ s. ok (slot x (variables s)) s
slot_of (receiver l) = with_found l (λ f. give (full (record (f.tree) { optionals = 0 })))
slot_of (contract id) = λ s. ok (value_in s.contracts id) s
slot_of (stored a n) = λ s. ok (stored_slot s a n) s
slot_of (part l i) = with_found l (λ f. give (slot i f.tree.parts))
slot_of (element l i) = with_found l (λ f. element_of i f.tree.shape f.tree.parts)
slot_of (entry l key) = with_found l (λ f. entry_of_key key f.tree.shape f.tree.parts)

-- an empty place: a field that isn't set is 132, what a swap has taken out is 113
abbrev pub empty_error : {A : Type 0} → Location → Action A
empty_error (part l i) = fail 132
empty_error (element l i) = fail 113
empty_error (entry l key) = fail 113
empty_error _ = stuck

-- there is no such place: of a dictionary that lacks the key the value is nil
abbrev pub absent : Location → Action (Option Tree)
absent (entry l key) = give None
absent _ = stuck

-- what stands under a key is the content of the optional that is read there
abbrev pub as_read : Location → Tree → Tree
as_read (entry l key) t = wrapped t
as_read _ t = t

abbrev pub read_slot : Location → Slot → Action (Option Tree)
read_slot x (full t) = give (Some (as_read x t))
read_slot x free = empty_error x
read_slot x out = absent x

-- the value in a place; none where a dictionary lacks the key
abbrev pub read : Location → Action (Option Tree)
read x = slot_of x >>= read_slot x

-- ---- what is done to a place

abbrev pub in_node : (ℕ → Row → Row) → ℕ → ℕ → Option Found → State → State
in_node g l i None s = s
in_node g l i (Some f) s = with_node l f.tree.shape (g i f.tree.parts) s

abbrev pub in_element : (ℕ → Row → Row) → ℕ → ℤ → State → State
in_element g l (pos i) s = in_node g l i (at l s) s
in_element g l (negsuc i) s = s

abbrev pub keys_in : NodeShape → List PureValue
keys_in (dictionary k t ks) = ks
keys_in _ = []

abbrev pub keys_of : Option Found → List PureValue
keys_of None = []
keys_of (Some f) = keys_in f.tree.shape

abbrev pub in_entry : (ℕ → Row → Row) → ℕ → Option ℕ → State → State
in_entry g l None s = s
in_entry g l (Some i) s = in_node g l i (at l s) s

-- the row in which the place stands is changed there
abbrev pub changed_at : (ℕ → Row → Row) → Location → State → State
changed_at g (variable x) s = with_variables (g x) s
changed_at g (receiver l) s = s
changed_at g (contract id) s = record s { contracts = change_value id (g 0) s.contracts }
changed_at g (stored a n) s = with_account a (on_stored g n) s
changed_at g (part l i) s = in_node g l i (at l s) s
changed_at g (element l i) s = in_element g l i s
changed_at g (entry l key) s = in_entry g l (key_position key (keys_of (at l s))) s

-- the node in a place is named: it has one label more
abbrev pub name : Location → Action ℕ
name (receiver l) = give l
name x = λ s. ok s.next_label (changed_at (λ i. named i s.next_label) x (record s { next_label = suc s.next_label }))
