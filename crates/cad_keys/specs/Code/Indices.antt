-- When an index tells where keys stand, by their hashes.
use Rattle.std.specs.Prelude.{◌≡◌, ◌≢◌, ℕ, suc, ◌-◌, ◌%◌, ◌<◌, ◌≤◌, List, length, get_or}
use Rattle.cad_values.specs.Values.{pure_value}
use Rattle.cad_values.specs.declared.value.Value.{Value}
use Rattle.cad_keys.specs.Code.Hashes.{key_hash}

-- of the first n hashes, c is one more than the place of the last that falls to a bucket, or 0
pub record IsLast (buckets : ℕ) (hashes : List ℕ) (bucket n c : ℕ) : Type 0 where
  pub within : c ≤ n
  pub none_after : (j : ℕ) → c ≤ j → j < n → get_or hashes j 0 % buckets ≢ bucket
  pub there : 0 < c → get_or hashes (c - 1) 0 % buckets ≡ bucket

-- of each bucket the last place, and of each place the one before it in its bucket
pub record IsIndex (heads links hashes : List ℕ) : Type 0 where
  pub buckets : 0 < length heads
  pub as_many : length links ≡ length hashes
  pub of_heads : (b : ℕ) → b < length heads → IsLast (length heads) hashes b (length hashes) (get_or heads b 0)
  pub of_links : (i : ℕ) → i < length hashes → IsLast (length heads) hashes (get_or hashes i 0 % length heads) i (get_or links i 0)

-- a number of an index behind the removal of a place
pub record IsShifted (place link x y : ℕ) : Type 0 where
  pub below : x ≤ place → y ≡ x
  pub here : x ≡ suc place → y ≡ link
  pub above : suc place < x → y ≡ x - 1

-- those before i are behind the removal, and the others are as they were
pub record AreShiftedTo (place link i : ℕ) (old new : List ℕ) : Type 0 where
  pub as_many : length new ≡ length old
  pub done : (k : ℕ) → k < i → IsShifted place link (get_or old k 0) (get_or new k 0)
  pub left : (k : ℕ) → i ≤ k → get_or new k 0 ≡ get_or old k 0

pub record AreShifted (place link : ℕ) (old new : List ℕ) : Type 0 where
  pub as_many : length new ≡ length old
  pub each : (i : ℕ) → i < length old → IsShifted place link (get_or old i 0) (get_or new i 0)

-- the hash of a key of the program
abbrev pub hash_of : Value → ℕ
hash_of v = key_hash (pure_value v)
