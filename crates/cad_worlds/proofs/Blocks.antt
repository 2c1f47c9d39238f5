-- Blocks of rows that are gone over one by one.
use Rattle.std.proofs.Common.{◌≡◌, ◌≤◌, ℕ, suc, ◌-◌, ◌<◌, slice_index_or, arith, List, [], ◌∷◌, ◌++◌, length, take, drop, get_or, refl, sym, ap, ◌∙◌, append_assoc, append-nil, take-append-drop}
use Rattle.cad_accounts.proofs.Blocks.{rows_append}
use Rattle.cad_accounts.specs.Memory.{block_rows, rows_in_blocks}
use Rattle.cad_accounts.specs.declared.block.Block.{Block}
use Rattle.cad_accounts.specs.declared.row.Row.{Row}
use Rattle.cad_worlds.proofs.Lists.{none_past, from_item}
use Rattle.cad_worlds.specs.Code.Passing.{last_key, last_in}

-- ---- all blocks

-- a block more
pub block_turn : (blocks : List Block) (i : ℕ) (b : Block) (now new all : List Row) → i < length blocks → b ≡ get_or blocks i b
    → now ++ rows_in_blocks (drop i blocks) ≡ all → new ≡ now ++ block_rows b → new ++ rows_in_blocks (drop (suc i) blocks) ≡ all
block_turn blocks i b now new all inside is so_far grown =
    let rest = rows_in_blocks (drop (suc i) blocks) in
    ap (λ (z : List Row). z ++ rest) grown
    ∙ append_assoc now (block_rows b) rest
    ∙ ap (λ (z : List Row). now ++ z) (sym (ap rows_in_blocks (from_item blocks i b inside is)))
    ∙ so_far

pub block_end : (blocks : List Block) (i : ℕ) (now all : List Row) → length blocks ≤ i → now ++ rows_in_blocks (drop i blocks) ≡ all → now ≡ all
block_end blocks i now all outside so_far = sym (append-nil now) ∙ ap (λ (l : List Block). now ++ rows_in_blocks l) (sym (none_past blocks i outside)) ∙ so_far

-- the rows of blocks in two parts
pub rows_split : (n : ℕ) (blocks : List Block) → rows_in_blocks blocks ≡ rows_in_blocks (take n blocks) ++ rows_in_blocks (drop n blocks)
rows_split n blocks = ap rows_in_blocks (sym (take-append-drop n blocks)) ∙ rows_append (take n blocks) (drop n blocks)

-- ---- the last row

pub last_of : (rows : List Row) (x : Row) → 1 ≤ length rows → (slice_index_or rows (length rows - 1) x).key.0 ≡ last_key rows
last_of [] x le = let never : ⊥ = omega arith in absurd never
last_of (r ∷ []) x le = refl
last_of (r ∷ s ∷ rows) x le =
    let e : length (r ∷ s ∷ rows) - 1 ≡ suc (length rows) = omega arith in
    let f : length rows ≡ length (s ∷ rows) - 1 = omega arith in
    ap (λ (n : ℕ). (slice_index_or (r ∷ s ∷ rows) n x).key.0) e ∙ ap (λ (n : ℕ). (slice_index_or (s ∷ rows) n x).key.0) f ∙ last_of (s ∷ rows) x (omega arith)

pub last_block : (blocks : List Block) (x : Block) → 1 ≤ length blocks → last_key (block_rows (slice_index_or blocks (length blocks - 1) x)) ≡ last_in blocks
last_block [] x le = let never : ⊥ = omega arith in absurd never
last_block (b ∷ []) x le = refl
last_block (b ∷ c ∷ blocks) x le =
    let e : length (b ∷ c ∷ blocks) - 1 ≡ suc (length blocks) = omega arith in
    let f : length blocks ≡ length (c ∷ blocks) - 1 = omega arith in
    ap (λ (n : ℕ). last_key (block_rows (slice_index_or (b ∷ c ∷ blocks) n x))) e ∙ ap (λ (n : ℕ). last_key (block_rows (slice_index_or (c ∷ blocks) n x))) f ∙ last_block (c ∷ blocks) x (omega arith)
