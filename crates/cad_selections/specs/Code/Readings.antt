-- How values are read in two steps: the first finds out what is needed and leaves the state as it is, the second does it.
use Rattle.std.specs.Prelude.{◌≡◌, ℕ, suc, Bool, true, false, ◌&&◌, List, Option, Some, None, Result, Ok, Err}
use Rattle.cad_syntax.specs.Types.{PureType}
use Rattle.cad_syntax.specs.declared.types.Authorization.{Authorization}
use Rattle.cad_types.specs.Optionals.{gives_reference}
use Rattle.cad_outcomes.specs.Outcomes.{Stops}
use Rattle.cad_outcomes.specs.declared.stop.Stop.{Stop}
use Rattle.cad_rows.specs.Views.{pure_tree}
use Rattle.cad_state.specs.Views.{state_over, IsReady}
use Rattle.cad_state.specs.declared.state.RunState.{RunState}
use Rattle.cad_locations.specs.Views.{location_of}
use Rattle.cad_world.specs.Locations.{Location, name}
use Rattle.cad_world.specs.Rows.{NodeShape, plain, link, stop, Tree}
use Rattle.cad_world.specs.State.{Account, State, Action, ◌>>=◌, give}
use Rattle.cad_world.specs.Trees.{wrapped}
use Rattle.cad_evaluation.specs.Reading.{copied}
use Rattle.cad_selections.specs.declared.readings.Reading.{Reading}
use Rattle.cad_selections.specs.declared.readings.Reading.TheVariants as reading

-- ---- what is left to do

-- an action that leaves the state as it is up to here, and then does what was found out; or it stops
abbrev pub Leaves : {A B : Type 0} → (B → Action A) → Action A → State → Result B Stop → Type 0
Leaves rest action s (Ok b) = action s ≡ rest b s
Leaves rest action s (Err why) = Stops (action s) why

-- the same whatever the accounts are
abbrev pub LeavesOver : {A B : Type 0} → (B → Action A) → Action A → RunState → Result B Stop → Type 0
LeavesOver rest action x result = (accounts : List Account) → Leaves rest action (state_over accounts x) result

-- the same where nodes are found by their labels
abbrev pub FindsAndLeaves : {A B : Type 0} → (B → Action A) → Action A → RunState → Result B Stop → Type 0
FindsAndLeaves rest action x result = (accounts : List Account) → IsReady accounts x → Leaves rest action (state_over accounts x) result

-- ---- what is read

-- a reference to the node in a place, which is named, in so many optionals
abbrev pub linked : Authorization → Location → ℕ → Action Tree
linked a x n = name x >>= (λ l. give (record { optionals = n; shape = link a l 0; parts = stop }))

abbrev pub reading_of : Reading → Action Tree
reading_of (reading.Copy t) = give (pure_tree t)
reading_of (reading.Link a x n) = linked a (location_of x) n

-- a composite or container
abbrev pub is_whole : NodeShape → Bool
is_whole (plain v) = false
is_whole (link a l n) = false
is_whole _ = true

-- what stands in a place of this declared type, met with these rights, is read as a reference
abbrev pub lends : Option Authorization → PureType → NodeShape → Bool
lends None type shape = false
lends (Some own) type shape = gives_reference type && is_whole shape

abbrev pub read_as : Bool → Authorization → Location → Tree → Action Tree
read_as true a x t = linked a x t.optionals
read_as false a x t = copied t

-- under a key, in one optional more
abbrev pub copied_inside : Tree → Action Tree
copied_inside t = copied t >>= (λ v. give (wrapped v))

abbrev pub read_inside : Bool → Authorization → Location → Tree → Action Tree
read_inside true a x t = linked a x (suc t.optionals)
read_inside false a x t = copied_inside t
