-- Lists in byte order of their keys.
use Rattle.std.specs.Prelude.{ℕ, Bool, true, ◌&&◌, List, [], ◌∷◌}
use Rattle.std.specs.Ordering.{nat_cmp, is_lt}
use Rattle.std.specs.Cmp.Lexicographic.{slice_cmp}
use Rattle.cad_accounts.specs.declared.row.Row.{Row}

abbrev pub row_key : Row → List ℕ
row_key row = row.key.0

-- the one key stands before the other
abbrev pub before : List ℕ → List ℕ → Bool
before a b = is_lt (slice_cmp nat_cmp a b)

-- in byte order of the keys, each key once
abbrev pub rise : {X : Type 0} → (X → List ℕ) → List X → Bool
rise name [] = true
rise name (x ∷ []) = true
rise name (x ∷ y ∷ xs) = before (name x) (name y) && rise name (y ∷ xs)
