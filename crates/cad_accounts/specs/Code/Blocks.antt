-- Which keys the rows of each block have.
use Rattle.std.specs.Prelude.{◌≡◌, ◌⊎◌, ℕ, zero, suc, ◌+◌, ◌<◌, ◌≤◌, ◌==◌, Bool, true, false, not, ◌&&◌, List, [], ◌∷◌, length, take, drop, Option, Some, None, if◌then◌else◌}
use Rattle.cad_wire.specs.declared.entry.Entry.{Entry}
use Rattle.cad_accounts.specs.declared.row.Row.{Row}
use Rattle.cad_accounts.specs.declared.block.Block.{Block}
use Rattle.cad_accounts.specs.Code.Places.{AllBefore, entry_key}
use Rattle.cad_accounts.specs.KeyOrder.{row_key, before}
use Rattle.cad_accounts.specs.Memory.{block_rows, block_at, spare_at, falling}

abbrev pub block_from : Block → List ℕ
block_from b = b.from.0

-- where the next block begins
abbrev pub next : List Block → Option (List ℕ)
next [] = None
next (b ∷ blocks) = Some (block_from b)

abbrev pub is_under : Option (List ℕ) → List ℕ → Bool
is_under None key = true
is_under (Some end) key = before key end

-- from the one key on, and before the other
abbrev pub is_in : List ℕ → Option (List ℕ) → List ℕ → Bool
is_in from end key = not (before key from) && is_under end key

abbrev pub all_in : List ℕ → Option (List ℕ) → List Row → Bool
all_in from end [] = true
all_in from end (r ∷ rows) = is_in from end r.key.0 && all_in from end rows

-- the blocks rise, and each has the rows from its key on, up to the next
abbrev pub are_parted : List Block → Bool
are_parted [] = true
are_parted (b ∷ blocks) = all_in (block_from b) (next blocks) (block_rows b) && (is_under (next blocks) (block_from b) && are_parted blocks)

-- all keys stand behind this one
abbrev pub is_least : List ℕ → Bool
is_least [] = true
is_least (x ∷ xs) = false

-- the first block begins with all keys
abbrev pub are_whole : List Block → Bool
are_whole [] = true
are_whole (b ∷ blocks) = is_least (block_from b)

abbrev pub rows_at : List Block → ℕ → List Row
rows_at [] i = []
rows_at (b ∷ blocks) zero = block_rows b
rows_at (b ∷ blocks) (suc i) = rows_at blocks i

-- These blocks begin as those, and each has as much room; the one at this index may have room for one row less.
pub record Spends (i : ℕ) (old new : List Block) : Type 0 where
  pub places : (key : List ℕ) → block_at new key ≡ block_at old key
  pub room : (k : ℕ) → spare_at old k ≤ spare_at new k + (if i == k then 1 else 0)

-- Keys before this one fall to the same blocks as they did, and these have as much room; others fall to no earlier ones.
pub record Keeps (key : List ℕ) (old new : List Block) : Type 0 where
  pub places : (k : List ℕ) → before k key ≡ true → block_at new k ≡ block_at old k
  pub grows : (k : List ℕ) → block_at old k ≤ block_at new k
  pub room : (k : ℕ) → k ≤ block_at old key → spare_at old k ≤ spare_at new k

-- a block was split at most, at this key or at one behind the last
pub record Parts (last key : List ℕ) (old new : List Block) : Type 0 where
  pub seam : List ℕ
  pub where_is : (before last seam ≡ true) ⊎ (seam ≡ key)
  pub keeps : Keeps seam old new

-- the block at this index has so much room, and no other has less
pub record Widens (i more : ℕ) (old new : List Block) : Type 0 where
  pub places : (key : List ℕ) → block_at new key ≡ block_at old key
  pub room : (k : ℕ) → spare_at old k ≤ spare_at new k
  pub here : more ≤ spare_at new i

-- room for one change more was made, in a block that may have been split before
pub record Steps (last key : List ℕ) (at promised block more : ℕ) (old new : List Block) : Type 0 where
  pub middle : List Block
  pub parts : Parts last key old middle
  pub block_is : block ≡ block_at middle key
  pub more_is : more ≡ (if block == at then promised + 1 else 1)
  pub widens : Widens block more middle new

-- none of the rows stands before this key
abbrev pub AllFrom : List ℕ → List Row → Type 0
AllFrom key [] = Unit {0}
AllFrom key (r ∷ rows) = (before r.key.0 key ≡ false) × AllFrom key rows

-- at this index the rows before a key end
pub record Cuts (key : List ℕ) (rows : List Row) (i : ℕ) : Type 0 where
  pub within : i ≤ length rows
  pub front : AllBefore row_key (take i rows) key
  pub back : AllFrom key (drop i rows)

-- There is room for these changes: for as many as were promised in the last block that one falls to, and none falls to blocks
-- behind it.
pub record Promised (blocks : List Block) (changes : List Entry) (at promised : ℕ) : Type 0 where
  pub each : (i : ℕ) → falling blocks i changes ≤ spare_at blocks i
  pub here : falling blocks at changes ≤ promised
  pub above : (i : ℕ) → at < i → falling blocks i changes ≡ 0
  pub reached : (key : List ℕ) → AllBefore entry_key changes key → at ≤ block_at blocks key
