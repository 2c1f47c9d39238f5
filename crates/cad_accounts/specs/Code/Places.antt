-- Where a key stands, or belongs, in a list that is in byte order of its keys.
use Rattle.std.specs.Prelude.{◌≡◌, ◌⊎◌, ℕ, suc, ◌<◌, ◌≤◌, true, List, [], ◌∷◌, length, take, drop, Result, Ok, Err}
use Rattle.std.specs.List.{HoldsAt}
use Rattle.cad_wire.specs.declared.entry.Entry.{Entry}
use Rattle.cad_accounts.specs.KeyOrder.{before}

abbrev pub entry_key : Entry → List ℕ
entry_key e = e.key.0

-- the index in all of what stands at this index behind a list
abbrev pub past : {X : Type 0} → List X → ℕ → ℕ
past [] i = i
past (x ∷ xs) i = suc (past xs i)

-- all keys stand before this one, or behind it
abbrev pub AllBefore : {X : Type 0} → (X → List ℕ) → List X → List ℕ → Type 0
AllBefore name [] key = Unit {0}
AllBefore name (x ∷ xs) key = (before (name x) key ≡ true) × AllBefore name xs key

abbrev pub AllBehind : {X : Type 0} → (X → List ℕ) → List ℕ → List X → Type 0
AllBehind name key [] = Unit {0}
AllBehind name key (x ∷ xs) = (before key (name x) ≡ true) × AllBehind name key xs

-- this key stands there
pub record StandsAt {X : Type 0} (name : X → List ℕ) (key : List ℕ) (xs : List X) (i : ℕ) : Type 0 where
  pub within : i < length xs
  pub key_is : HoldsAt (λ x. name x ≡ key) xs i

-- this key isn't there, and belongs there
pub record BelongsAt {X : Type 0} (name : X → List ℕ) (key : List ℕ) (xs : List X) (i : ℕ) : Type 0 where
  pub within : i ≤ length xs
  pub in_front : AllBefore name (take i xs) key
  pub behind : AllBehind name key (drop i xs)

abbrev pub IsPlace : {X : Type 0} → (X → List ℕ) → List ℕ → List X → Result ℕ ℕ → Type 0
IsPlace name key xs (Ok i) = StandsAt name key xs i
IsPlace name key xs (Err i) = BelongsAt name key xs i

-- an entry of the key isn't there, and one of a greater key is, among entries in byte order of their keys
abbrev pub IsLate : List ℕ → List Entry → Type 0
IsLate key [] = ⊥
IsLate key (e ∷ entries) = (before key e.key.0 ≡ true) ⊎ ((before e.key.0 key ≡ true) × IsLate key entries)

abbrev pub AreLate : List Entry → List Entry → Type 0
AreLate entries [] = Unit {0}
AreLate entries (e ∷ late) = IsLate e.key.0 entries × AreLate entries late
