-- The first key and the last of blocks are those of their rows.
use Rattle.std.proofs.Common.{◌≡◌, ◌+◌, ◌<◌, ◌≤◌, ℕ, suc, true, List, [], ◌∷◌, ◌++◌, length, take, drop, get_or, Option, Some, None, refl, sym, ap, subst, ◌∙◌, append-nil, drop-drop}
use Rattle.cad_accounts.specs.Memory.{block_rows, rows_in_blocks}
use Rattle.cad_accounts.specs.declared.block.Block.{Block}
use Rattle.cad_accounts.specs.declared.row.Row.{Row}
use Rattle.cad_worlds.proofs.Blocks.{rows_split}
use Rattle.cad_worlds.proofs.Lists.{none_past, from_item}
use Rattle.cad_worlds.proofs.Passing.{by_span, pass_on, all_found}
use Rattle.cad_worlds.specs.Code.Passing.{first_key, last_key, last_in, span_between, span_of, span_in, is_passed, LeavesOut, GoesOn}
use Rattle.cad_worlds.specs.declared.spans.Span.{Span}

first_of_both : (xs ys : List Row) → (first_key xs ≡ [] → ⊥) → first_key (xs ++ ys) ≡ first_key xs
first_of_both [] ys n = absurd (n refl)
first_of_both (x ∷ xs) ys n = refl

last_of_both : (xs ys : List Row) → (last_key ys ≡ [] → ⊥) → last_key (xs ++ ys) ≡ last_key ys
last_of_both [] ys n = refl
last_of_both (x ∷ xs) [] n = absurd (n refl)
last_of_both (x ∷ []) (y ∷ ys) n = refl
last_of_both (x ∷ z ∷ xs) (y ∷ ys) n = last_of_both (z ∷ xs) (y ∷ ys) n

last_of_all : (b : Block) (blocks : List Block) → (last_in (b ∷ blocks) ≡ [] → ⊥) → last_key (rows_in_blocks (b ∷ blocks)) ≡ last_in (b ∷ blocks)
last_of_all b [] n = ap last_key (append-nil (block_rows b))
last_of_all b (c ∷ blocks) n =
    let rest = last_of_all c blocks n in
    last_of_both (block_rows b) (rows_in_blocks (c ∷ blocks)) (λ e. n (sym rest ∙ e)) ∙ rest

-- keys between which there is a span aren't empty
first_there : (a b : List ℕ) (s : Span) → span_between a b ≡ Some s → a ≡ [] → ⊥
first_there [] b s e none = absurd cc
first_there (x ∷ a) b s e none = absurd cc

last_there : (a b : List ℕ) (s : Span) → span_between a b ≡ Some s → b ≡ [] → ⊥
last_there [] b s e none = absurd cc
last_there (x ∷ a) [] s e none = absurd cc
last_there (x ∷ a) (y ∷ b) s e none = absurd cc

ends : (rows : List Row) → span_between (first_key rows) (last_key rows) ≡ span_of rows
ends [] = refl
ends (r ∷ rows) = refl

span_is : (blocks : List Block) (s : Span) → span_in blocks ≡ Some s → span_of (rows_in_blocks blocks) ≡ Some s
span_is [] s e = absurd cc
span_is (b ∷ blocks) s e =
    let first = first_of_both (block_rows b) (rows_in_blocks blocks) (first_there (first_key (block_rows b)) (last_in (b ∷ blocks)) s e) in
    let last = last_of_all b blocks (last_there (first_key (block_rows b)) (last_in (b ∷ blocks)) s e) in
    sym (ends (rows_in_blocks (b ∷ blocks))) ∙ (λ i. span_between (first i) (last i)) ∙ e

pub by_front : (indexes : List ℕ) (o : Option Span) (blocks : List Block) → is_passed indexes o ≡ true → span_in blocks ≡ o → LeavesOut indexes [] (rows_in_blocks blocks)
by_front indexes None blocks u e = absurd cc
by_front indexes (Some s) blocks u e = by_span indexes (Some s) (rows_in_blocks blocks) u (span_is blocks s e)

-- ---- the blocks that are left

module _ (indexes : List ℕ) (found all : List Row) (blocks : List Block) (i : ℕ) where
  pub blocks_passed : (left : List Block) (n : ℕ) → left ≡ drop i blocks → LeavesOut indexes [] (rows_in_blocks (take n left))
      → GoesOn indexes found (rows_in_blocks (drop i blocks)) all → GoesOn indexes found (rows_in_blocks (drop (i + n) blocks)) all
  blocks_passed left n are none so_far =
      let front = rows_in_blocks (take n left) in
      let parts = ap rows_in_blocks (sym are) ∙ rows_split n left ∙ ap (λ (l : List Block). front ++ rows_in_blocks l) (ap (drop n) are ∙ drop-drop n i blocks) in
      pass_on indexes found front (rows_in_blocks (drop (i + n) blocks)) (rows_in_blocks (drop i blocks)) all none parts so_far

  -- the rows of one block are gone over
  pub block_taken : (new rows : List Row) (b : Block) → i < length blocks → b ≡ get_or blocks i b → rows ≡ block_rows b
      → ((behind whole : List Row) → GoesOn indexes found (rows ++ behind) whole → GoesOn indexes new behind whole)
      → GoesOn indexes found (rows_in_blocks (drop i blocks)) all → GoesOn indexes new (rows_in_blocks (drop (suc i) blocks)) all
  block_taken new rows b inside is are pushed so_far =
      let rest = rows_in_blocks (drop (suc i) blocks) in
      let parts = ap rows_in_blocks (from_item blocks i b inside is) ∙ ap (λ (l : List Row). l ++ rest) (sym are) in
      pushed rest all (subst (λ (l : List Row). GoesOn indexes found l all) parts so_far)

pub all_blocks : (indexes : List ℕ) (found : List Row) (blocks : List Block) (i : ℕ) → length blocks ≤ i
    → GoesOn indexes found (rows_in_blocks (drop i blocks)) (rows_in_blocks blocks) → LeavesOut indexes found (rows_in_blocks blocks)
all_blocks indexes found blocks i outside so_far = all_found indexes found (rows_in_blocks (drop i blocks)) (rows_in_blocks blocks) (ap rows_in_blocks (none_past blocks i outside)) so_far
