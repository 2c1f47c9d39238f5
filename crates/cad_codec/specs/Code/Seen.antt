-- A set of byte strings as the list of those that were added to it.
use Rattle.std.specs.Prelude.{◌≡◌, ℕ, Bool, not, List, [], ◌∷◌, ◌++◌}
use Rattle.std.specs.Ordering.{nat_cmp}
use Rattle.std.specs.Cmp.Lexicographic.{slice_cmp}
use Rattle.std.specs.Str.{bytes_eq}
use Rattle.std.specs.List.{list_any}
use Rattle.std.specs.BTreeSet.{BTreeSet, contains}
use Rattle.std.specs.declared.vec.Vec.{Vec}
use Rattle.std.specs.declared.alloc.Global.{Global}

abbrev pub has_bytes : List (List ℕ) → List ℕ → Bool
has_bytes known x = list_any (λ k. bytes_eq k x) known

abbrev pub Set : Type 0
Set = BTreeSet (Vec ℕ Global)

-- the set holds these
abbrev pub Holds : Set → List (List ℕ) → Type 0
Holds set known = (q : Vec ℕ Global) → contains (λ x y. slice_cmp nat_cmp x.items y.items) set q ≡ has_bytes known q.items

-- a key is added to a set, and it is told whether it is new
abbrev pub Adds : Set → Set → List ℕ → Bool → Type 0
Adds old now key added = (known : List (List ℕ)) → Holds old known → (added ≡ not (has_bytes known key)) × Holds now (known ++ key ∷ [])
