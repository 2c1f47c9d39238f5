-- The steps of assignments and swaps.
use Rattle.std.specs.Prelude.{ℕ, ℤ, pos, negsuc, Bool, false, ◌==◌}
use Rattle.cad_syntax.specs.Types.{PureType}
use Rattle.cad_world.specs.Labels.{same_node}
use Rattle.cad_world.specs.Locations.{Location, slot_of, read, as_read}
use Rattle.cad_world.specs.Rows.{Tree}
use Rattle.cad_world.specs.State.{Action, ok, ◌>>=◌, ◌>>◌, give, done, fail}
use Rattle.cad_world.specs.Transfers.{transferred}
use Rattle.cad_evaluation.specs.Changing.{opened, take, fill, cleared, empty_if_nil, nothing_there, same_location, still_there}
use Rattle.cad_assignments.specs.Code.Emptied.{emptied}

-- what stands in a place goes
abbrev pub gone : Location → Action (Unit {0})
gone x = emptied x >> done

abbrev pub old_cleared : Location → Action (Unit {0})
old_cleared x = slot_of x >>= cleared x

abbrev pub nil_in : Tree → Action (Unit {0})
nil_in t = opened t done (λ v. fail 115)

abbrev pub nil_read : Location → Tree → Action (Unit {0})
nil_read x t = nil_in (as_read x t)

abbrev pub nothing_cleared : Location → Action (Unit {0})
nothing_cleared x = nothing_there x >> done

abbrev pub nil_cleared : Location → Action (Unit {0})
nil_cleared x = slot_of x >>= empty_if_nil x

-- a value leaves its place and is handed over
abbrev pub taken_over : Location → PureType → Action Tree
taken_over x type = take x >>= transferred type

abbrev pub filled_for : Location → Tree → Tree → Action Tree
filled_for x t old = fill x t >> give old

-- ---- swaps

abbrev pub read_only : Location → Action (Unit {0})
read_only x = read x >> done

abbrev pub same_asked : Location → Location → Action Bool
same_asked x y = λ s. ok (same_location s x y) s

abbrev pub same_node_asked : ℕ → ℕ → Action Bool
same_node_asked l k = λ s. ok (same_node s l k) s

-- two numbers that are one index
abbrev pub is_same_index : ℤ → ℤ → Bool
is_same_index (pos i) (pos j) = i == j
is_same_index (pos i) (negsuc j) = false
is_same_index (negsuc i) z = false

abbrev pub both_there : Location → Location → Action (Unit {0})
both_there x y = still_there x >> still_there y

abbrev pub first_filled : Location → Location → Tree → Action (Unit {0})
first_filled x y b = both_there x y >> fill x b

abbrev pub both_filled : Location → Location → Tree → Tree → Action (Unit {0})
both_filled x y b a = first_filled x y b >> fill y a

-- the other value leaves its place, and both are put in
abbrev pub second_swapped : Location → PureType → Location → Tree → Action (Unit {0})
second_swapped x xtype y a = taken_over y xtype >>= (λ b. both_filled x y b a)
