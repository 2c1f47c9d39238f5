-- What is tested of the identities of resources.
use Rattle.std.specs.Prelude.{◌≡◌, ◌<◌, ℕ, Bool, true, not, ◌&&◌, ◌==◌, All, List, [], ◌∷◌, ◌++◌}
use Rattle.std.specs.List.{list_any}
use Rattle.std.specs.Ordering.{nat_cmp}
use Rattle.std.specs.BTreeSet.{BTreeSet, contains}
use Rattle.cad_rows.specs.Views.{PlaceView, vacant, taken, pure_row}
use Rattle.cad_state.specs.declared.state.Account.{Account}
use Rattle.cad_state.specs.declared.state.Contract.{Contract}
use Rattle.cad_values.specs.Keys.{Distinct}
use Rattle.cad_values.specs.Shapes.{Shapes}
use Rattle.cad_world.specs.Fits.{has_identity, have_identities}
use Rattle.cad_world.specs.Rows.{Tree, identities}

-- each resource in a tree, and in what stands in a place, has an identity
abbrev pub tree_has_identities : Shapes → Tree → Bool
tree_has_identities k t = has_identity k t.shape && have_identities k t.parts

abbrev pub place_has_identities : Shapes → PlaceView → Bool
place_has_identities k vacant = true
place_has_identities k (taken l t) = tree_has_identities k t

-- the identities in what an account stores, and in the value of a contract
abbrev pub stored_identities : Account → List ℕ
stored_identities a = identities (pure_row a.stored.items)

abbrev pub contract_identities : Contract → List ℕ
contract_identities c = identities (pure_row c.value.items)

-- no two are the same, and all were given
abbrev pub AreOwn : ℕ → List ℕ → Type 0
AreOwn next numbers = Distinct numbers × All (λ i. i < next) numbers

-- ---- numbers that were seen

abbrev pub has_number : List ℕ → ℕ → Bool
has_number known n = list_any (λ k. k == n) known

-- the set holds these
abbrev pub HoldsNumbers : BTreeSet ℕ → List ℕ → Type 0
HoldsNumbers set known = (q : ℕ) → contains nat_cmp set q ≡ has_number known q

-- a number is added to a set, and it is told whether it is new
abbrev pub AddsNumber : BTreeSet ℕ → BTreeSet ℕ → ℕ → Bool → Type 0
AddsNumber old now n added = (known : List ℕ) → HoldsNumbers old known → (added ≡ not (has_number known n)) × HoldsNumbers now (known ++ n ∷ [])
