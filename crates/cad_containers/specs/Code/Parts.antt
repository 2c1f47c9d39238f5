-- What the parts of arrays and dictionaries are, and what is used of them.
use Rattle.std.specs.Prelude.{◌≡◌, ◌≤◌, ℕ, ℤ, pos, negsuc, Bool, true, false, List, Option, Some, None, map}
use Rattle.cad_syntax.specs.Types.{PureType, pure_type}
use Rattle.cad_values.specs.Values.{PureValue, pure_value}
use Rattle.cad_rows.specs.Views.{PlaceView, vacant, taken, pure_row}
use Rattle.cad_world.specs.Rows.{NodeShape, array, dictionary, Row, Tree}
use Rattle.cad_world.specs.State.{Action, stuck}
use Rattle.cad_world.specs.Same.{equal}
use Rattle.cad_world.specs.Trees.{value_of}
use Rattle.cad_evaluation.specs.Builtins.{by_array, by_dictionary}
use Rattle.cad_evaluation.specs.Containers.{are_places}
use Rattle.cad_containers.specs.declared.arrays.Bounds.{Bounds}
use Rattle.cad_containers.specs.declared.parts.Elements.{Elements}
use Rattle.cad_containers.specs.declared.parts.Entries.{Entries}

-- an array is told by the type of its elements, and these; nothing else is one
abbrev pub AreElements : ℕ → NodeShape → Row → Option Elements → Type 0
AreElements n shape parts None = (f : PureType → Row → Action Tree) → by_array n shape parts f ≡ stuck
AreElements n shape parts (Some x) = (n ≡ 0) × (shape ≡ array (pure_type x.element.now)) × (parts ≡ pure_row x.parts.now)

-- and a dictionary by its two types, its keys and what stands under them
abbrev pub AreEntries : ℕ → NodeShape → Row → Option Entries → Type 0
AreEntries n shape parts None = (f : PureType → PureType → List PureValue → Row → Action Tree) → by_dictionary n shape parts f ≡ stuck
AreEntries n shape parts (Some x) = (n ≡ 0) × (shape ≡ dictionary (pure_type x.key.now) (pure_type x.value.now) (map pure_value x.keys.now)) × (parts ≡ pure_row x.parts.now)

abbrev pub is_array : NodeShape → Bool
is_array (array t) = true
is_array _ = false

-- the same stands in a place as that value
abbrev pub equal_there : PureValue → PlaceView → Bool
equal_there v vacant = false
equal_there v (taken l t) = equal v (value_of t)

abbrev pub IsNegative : ℤ → Type 0
IsNegative (pos n) = ⊥
IsNegative (negsuc n) = Unit {0}

-- two integers are these places of a row of that length, in order; or they aren't so
abbrev pub AreBounds : ℤ → ℤ → ℕ → Option Bounds → Type 0
AreBounds x y n None = are_places x y n ≡ false
AreBounds x y n (Some b) = (are_places x y n ≡ true) × (x ≡ pos b.from) × (y ≡ pos b.up_to) × (b.from ≤ b.up_to) × (b.up_to ≤ n)
