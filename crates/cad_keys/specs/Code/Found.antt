-- When an index tells where the keys of a list stand, and how far a walk through a bucket has come.
use Rattle.std.specs.Prelude.{◌≡◌, ℕ, ◌-◌, ◌%◌, ◌<◌, ◌≤◌, true, false, List, length, map, get_or, Option, Some, None}
use Rattle.cad_values.specs.Values.{pure_value, PureValue}
use Rattle.cad_values.specs.declared.value.Value.{Value}
use Rattle.cad_values.specs.declared.value.Value.TheVariants as v
use Rattle.cad_world.specs.Same.{same_key}
use Rattle.cad_keys.specs.Code.Indices.{IsIndex, hash_of}
use Rattle.cad_keys.specs.declared.index.Index.{Index}

-- of these keys
abbrev pub Fits : Index → List Value → Type 0
Fits index rows = IsIndex index.heads.items index.links.items (map hash_of rows)

-- the key at a place
abbrev pub key_at : List Value → ℕ → PureValue
key_at rows j = pure_value (get_or rows j v.Void)

-- the first of the places from c on whose key is the same
abbrev pub IsFirst : PureValue → List Value → ℕ → Option ℕ → Type 0
IsFirst key rows c None = (j : ℕ) → c ≤ j → j < length rows → same_key key (key_at rows j) ≡ false
IsFirst key rows c (Some i) = (c ≤ i) × (i < length rows) × (same_key key (key_at rows i) ≡ true) × ((j : ℕ) → c ≤ j → j < i → same_key key (key_at rows j) ≡ false)

-- a walk through the bucket of a key: the next place is of the bucket, and what comes behind it was looked at
pub record IsWalk (buckets : ℕ) (bucket : ℕ) (key : PureValue) (rows : List Value) (c : ℕ) (found : Option ℕ) : Type 0 where
  pub within : c ≤ length rows
  pub there : 0 < c → get_or (map hash_of rows) (c - 1) 0 % buckets ≡ bucket
  pub first : IsFirst key rows c found
