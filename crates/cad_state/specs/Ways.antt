-- The accounts and rows of a state, the nodes to which ways lead in them, and hints.
use Rattle.std.specs.Prelude.{◌≡◌, ℕ, zero, suc, ◌%◌, ◌==◌, nat_le, Bool, true, false, if◌then◌else◌, List, [], ◌∷◌, map, length, reverse, Option, Some, None, slice_get, option_map}
use Rattle.cad_world.specs.Rows.{Row, Found, found, is_one_of, Slot, full, tree_owns}
use Rattle.cad_world.specs.State as s
use Rattle.cad_rows.specs.Views.{pure_row}
use Rattle.cad_rows.specs.Ways.{node_at}
use Rattle.cad_rows.specs.declared.tree.Place.{Place}
use Rattle.cad_state.specs.Views.{state_over, accounts_over, frame_of, contract_of}
use Rattle.cad_state.specs.declared.hints.Root.{Root}
use Rattle.cad_state.specs.declared.hints.Root.TheVariants as root
use Rattle.cad_state.specs.declared.hints.Way.{Way}
use Rattle.cad_state.specs.declared.state.Account.{Account}
use Rattle.cad_state.specs.declared.state.Accounts.{Accounts}
use Rattle.cad_state.specs.declared.state.Accounts.TheVariants as v
use Rattle.cad_state.specs.declared.state.Known.{Known}
use Rattle.cad_state.specs.declared.state.RunState.{RunState}

abbrev pub is_there : {A : Type 0} → Option A → Bool
is_there None = false
is_there (Some a) = true

-- ---- accounts by their indices, the first 0

-- the account that is known of an index
abbrev pub code_in : List Known → ℕ → Option Account
code_in [] i = None
code_in (k ∷ ks) i = if k.index == i then Some k.account else code_in ks i

-- where it stands among those that are known
abbrev pub place_in : List Known → ℕ → Option ℕ
place_in [] i = None
place_in (k ∷ ks) i = if k.index == i then Some 0 else option_map suc (place_in ks i)

-- the account of an index, if the run has it
abbrev pub account_in : Accounts → ℕ → Option Account
account_in (v.All all) i = slice_get all.items i
account_in (v.Part count known) i = if nat_le count i then None else code_in known.items i

-- how many accounts the run has, and the index of each of them
abbrev pub count_in : Accounts → ℕ
count_in (v.All all) = length all.items
count_in (v.Part count known) = length known.items

abbrev pub index_or : ℕ → Option Known → ℕ
index_or i None = i
index_or i (Some k) = k.index

abbrev pub index_in : Accounts → ℕ → ℕ
index_in (v.All all) n = n
index_in (v.Part count known) n = index_or n (slice_get known.items n)

-- ---- in a state

-- the places of a row
abbrev pub row_at : Root → RunState → Option (List Place)
row_at (root.Variables i) x = option_map (λ c. c.variables.items) (slice_get x.calls.items i)
row_at (root.Before i) x = option_map (λ c. c.before.items) (slice_get x.calls.items i)
row_at (root.Result i) x = option_map (λ c. c.result.items) (slice_get x.calls.items i)
row_at root.Making x = Some x.making.items
row_at (root.Stored i) x = option_map (λ a. a.stored.items) (account_in x.accounts i)
row_at (root.Contract i) x = option_map (λ c. c.value.items) (slice_get x.contracts.items i)

-- the node at the end of a way from a row that may not be there
abbrev pub reached : List ℕ → Option (List Place) → Option Found
reached ds None = None
reached ds (Some ps) = node_at ds (pure_row ps)

abbrev pub at_index : {A : Type 0} → ℕ → (A → A) → List A → List A
at_index i g [] = []
at_index zero g (x ∷ xs) = g x ∷ xs
at_index (suc i) g (x ∷ xs) = x ∷ at_index i g xs

abbrev pub in_variables : (Row → Row) → s.Frame → s.Frame
in_variables g f = record f { variables = g f.variables }

abbrev pub in_before : (Row → Row) → s.Frame → s.Frame
in_before g f = record f { before = g f.before }

abbrev pub in_result : (Row → Row) → s.Frame → s.Frame
in_result g f = record f { result = g f.result }

abbrev pub in_stored : (Row → Row) → s.Account → s.Account
in_stored g a = record a { stored = g a.stored }

abbrev pub in_value : (Row → Row) → s.Contract → s.Contract
in_value g c = record c { value = g c.value }

-- an account changes, if the run has it
abbrev pub if_held : {A B : Type 0} → Option A → (B → B) → B → B
if_held None g b = b
if_held (Some a) g b = g b

-- the state in which one row is changed
abbrev pub with_row : Root → (Row → Row) → List s.Account → RunState → s.State
with_row (root.Variables i) g w x = record (state_over w x) { frames = reverse (at_index i (in_variables g) (map frame_of x.calls.items)) }
with_row (root.Before i) g w x = record (state_over w x) { frames = reverse (at_index i (in_before g) (map frame_of x.calls.items)) }
with_row (root.Result i) g w x = record (state_over w x) { frames = reverse (at_index i (in_result g) (map frame_of x.calls.items)) }
with_row root.Making g w x = record (state_over w x) { making = g (pure_row x.making.items) }
with_row (root.Stored i) g w x = record (state_over w x) { accounts = if_held (account_in x.accounts i) (at_index i (in_stored g)) (accounts_over w x.accounts) }
with_row (root.Contract i) g w x = record (state_over w x) { contracts = at_index i (in_value g) (map contract_of x.contracts.items) }

-- ---- by a label

-- the node with a label in a row that may not be there
abbrev pub found_in : ℕ → Option (List Place) → Option Found
found_in p None = None
found_in p (Some ps) = found p (pure_row ps)

-- the node of a label, if what was reached has it
abbrev pub if_labelled : ℕ → Option Found → Option Found
if_labelled p None = None
if_labelled p (Some f) = if is_one_of p f.labels then Some f else None

abbrev pub by_way : RunState → Option Way → Option Found
by_way x None = None
by_way x (Some way) = reached way.down.items (row_at way.root x)

-- the node to which the hint of a label leads
abbrev pub by_hint : ℕ → RunState → Option Found
by_hint p x = if_labelled p (by_way x (slice_get x.hints.ways.items (p % 4096)))

-- a way leads to the node with a label in its row
abbrev pub Stands : ℕ → RunState → Way → Type 0
Stands p x way = (reached way.down.items (row_at way.root x) ≡ found_in p (row_at way.root x)) × (is_there (found_in p (row_at way.root x)) ≡ true)

-- nothing is found in the call of this number
abbrev pub NotIn : ℕ → RunState → ℕ → Type 0
NotIn p x i = (found_in p (row_at (root.Variables i) x) ≡ None) × (found_in p (row_at (root.Before i) x) ≡ None) × (found_in p (row_at (root.Result i) x) ≡ None)

-- nothing is found in what is stored in the accounts that the run has
abbrev pub NotStored : ℕ → RunState → Type 0
NotStored p x = (i : ℕ) → found_in p (row_at (root.Stored i) x) ≡ None

-- ---- places

abbrev pub holds_tree : Slot → Bool
holds_tree (full t) = true
holds_tree _ = false

abbrev pub holds_resource : Slot → Bool
holds_resource (full t) = tree_owns t
holds_resource _ = false
