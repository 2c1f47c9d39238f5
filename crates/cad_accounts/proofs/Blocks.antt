-- Rows in blocks: what stands before a key and behind it.
use Rattle.std.proofs.Common.{◌≡◌, ℕ, zero, suc, ◌+◌, ◌-◌, ◌<◌, ◌≤◌, Bool, true, false, cond, List, [], ◌∷◌, ◌++◌, length, take, drop, get_or, Option, Some, None, Ordering, Result, Ok, Err, refl, sym, ap, subst, ◌∙◌, arith}
use Rattle.std.specs.Prelude.{not, ◌&&◌}
use Rattle.std.specs.Ordering.{nat_cmp, is_lt}
use Rattle.std.specs.declared.cmp.Ordering.TheVariants.{Less, Equal, Greater}
use Rattle.std.specs.Cmp.Lexicographic.{slice_cmp}
use Rattle.std.proofs.lemmas.List.{append_assoc, length-take-le}
use Rattle.std.proofs.Math.Seq.{drop-cons}
use Rattle.cad_accounts.specs.declared.row.Row.{Row}
use Rattle.cad_accounts.specs.declared.block.Block.{Block}
use Rattle.cad_accounts.specs.Registers.{same_key, at}
use Rattle.cad_accounts.specs.Memory.{block_rows, rows_in_blocks, begun, block_at}
use Rattle.cad_accounts.specs.Code.Blocks.{block_from, next, is_under, is_in, all_in, are_parted, is_least, are_whole}
use Rattle.cad_accounts.specs.Code.Places.{AllBefore, AllBehind, StandsAt, BelongsAt, IsPlace}
use Rattle.cad_accounts.specs.KeyOrder.{row_key, before, rise}
use Rattle.cad_accounts.proofs.Keys.{passes, equal_is, greater_is, not_itself, not_back, before_differs, behind_differs}
use Rattle.cad_accounts.proofs.Order.{both_left, both_right, both, parted, in_front_of, behind_it}
use Rattle.cad_accounts.proofs.RowLaws.{none_behind}
use Rattle.cad_accounts.proofs.Middle.{before_append, behind_append}

-- ---- keys

pub not_of : (b : Bool) → not b ≡ true → b ≡ false
not_of true e = absurd cc
not_of false e = refl

pub to_not : (b : Bool) → b ≡ false → not b ≡ true
to_not b e = ap not e

pub least : (a key : List ℕ) → is_least a ≡ true → before key a ≡ false
least [] [] e = refl
least [] (x ∷ key) e = refl
least (x ∷ a) key e = absurd cc

by_order : (a b m : List ℕ) (o : Ordering) → slice_cmp nat_cmp a b ≡ o → before a m ≡ true → before b m ≡ false → before a b ≡ true
by_order a b m Less e h k = ap is_lt e
by_order a b m Equal e h k = let wrong : true ≡ false = sym h ∙ ap (λ (x : List ℕ). before x m) (equal_is a b e) ∙ k in absurd cc
by_order a b m Greater e h k = let wrong : true ≡ false = sym (passes b a m (greater_is a b e) h) ∙ k in absurd cc

-- before what isn't before it
pub between : (a b m : List ℕ) → before a m ≡ true → before b m ≡ false → before a b ≡ true
between a b m h k = by_order a b m (slice_cmp nat_cmp a b) refl h k

-- ---- the blocks of a list

pub own : (b : Block) (blocks : List Block) → are_parted (b ∷ blocks) ≡ true → all_in (block_from b) (next blocks) (block_rows b) ≡ true
own b blocks p = both_left (all_in (block_from b) (next blocks) (block_rows b)) (is_under (next blocks) (block_from b) && are_parted blocks) p

behind_own : (b : Block) (blocks : List Block) → are_parted (b ∷ blocks) ≡ true → (is_under (next blocks) (block_from b) && are_parted blocks) ≡ true
behind_own b blocks p = both_right (all_in (block_from b) (next blocks) (block_rows b)) (is_under (next blocks) (block_from b) && are_parted blocks) p

pub under_next : (b : Block) (blocks : List Block) → are_parted (b ∷ blocks) ≡ true → is_under (next blocks) (block_from b) ≡ true
under_next b blocks p = both_left (is_under (next blocks) (block_from b)) (are_parted blocks) (behind_own b blocks p)

pub others : (b : Block) (blocks : List Block) → are_parted (b ∷ blocks) ≡ true → are_parted blocks ≡ true
others b blocks p = both_right (is_under (next blocks) (block_from b)) (are_parted blocks) (behind_own b blocks p)

pub blocks_rise : (blocks : List Block) → are_parted blocks ≡ true → rise block_from blocks ≡ true
blocks_rise [] p = refl
blocks_rise (b ∷ []) p = refl
blocks_rise (b ∷ c ∷ blocks) p = both (before (block_from b) (block_from c)) (rise block_from (c ∷ blocks)) (under_next b (c ∷ blocks) p) (blocks_rise (c ∷ blocks) (others b (c ∷ blocks) p))

pub rows_append : (xs ys : List Block) → rows_in_blocks (xs ++ ys) ≡ rows_in_blocks xs ++ rows_in_blocks ys
rows_append [] ys = refl
rows_append (x ∷ xs) ys = ap (λ (l : List Row). block_rows x ++ l) (rows_append xs ys) ∙ sym (append_assoc (block_rows x) (rows_in_blocks xs) (rows_in_blocks ys))

-- ---- where a block begins

begun_test : (t : Bool) (m n : ℕ) → cond t 0 (suc m) ≡ suc n → (t ≡ false) × (m ≡ n)
begun_test true m n e = absurd (omega (arith, e))
begun_test false m n e = (refl, omega (arith, e))

pub begun_first : (b : Block) (blocks : List Block) (key : List ℕ) (n : ℕ) → begun (b ∷ blocks) key ≡ suc n → (before key (block_from b) ≡ false) × (begun blocks key ≡ n)
begun_first b blocks key n e = begun_test (before key (block_from b)) (begun blocks key) n e

none_test : (t : Bool) (m : ℕ) → cond t 0 (suc m) ≡ 0 → t ≡ true
none_test true m e = refl
none_test false m e = absurd (omega (arith, e))

pub begun_none : (b : Block) (blocks : List Block) (key : List ℕ) → begun (b ∷ blocks) key ≡ 0 → before key (block_from b) ≡ true
begun_none b blocks key e = none_test (before key (block_from b)) (begun blocks key) e

pub begun_within : (blocks : List Block) (key : List ℕ) → begun blocks key ≤ length blocks
begun_within [] key = omega arith
begun_within (b ∷ blocks) key = either (before key (block_from b)) (begun blocks key) (length blocks) (begun_within blocks key)
  where
    either : (t : Bool) (m n : ℕ) → m ≤ n → cond t 0 (suc m) ≤ suc n
    either true m n h = omega arith
    either false m n h = omega (arith, h)

-- the first block begins before all keys
pub begun_whole : (blocks : List Block) (key : List ℕ) → are_whole blocks ≡ true → 0 < length blocks → begun blocks key ≡ suc (block_at blocks key)
begun_whole [] key e h = absurd (omega (arith, h))
begun_whole (b ∷ blocks) key e h =
    let is : begun (b ∷ blocks) key ≡ suc (begun blocks key) = ap (λ t. cond t 0 (suc (begun blocks key))) (least (block_from b) key e) in
    omega (arith, is)

pub at_within : (blocks : List Block) (key : List ℕ) → 0 < length blocks → block_at blocks key < length blocks
at_within blocks key h = omega (arith, begun_within blocks key, h)

-- what the search for a block says
begun_before : (key : List ℕ) (blocks : List Block) → AllBehind block_from key blocks → begun blocks key ≡ 0
begun_before key [] h = refl
begun_before key (b ∷ blocks) h = ap (λ t. cond t 0 (suc (begun blocks key))) h.0

begun_behind : (key : List ℕ) (blocks : List Block) (i : ℕ) → i ≤ length blocks → AllBefore block_from (take i blocks) key → begun blocks key ≡ i + begun (drop i blocks) key
begun_behind key blocks zero h e = omega arith
begun_behind key [] (suc i) h e = absurd (omega (arith, h))
begun_behind key (b ∷ blocks) (suc i) h e =
    let here : begun (b ∷ blocks) key ≡ suc (begun blocks key) = ap (λ t. cond t 0 (suc (begun blocks key))) (not_back (block_from b) key e.0) in
    omega (arith, here, begun_behind key blocks i (omega (arith, h)) e.1)

begun_belongs : (key : List ℕ) (blocks : List Block) (i : ℕ) → BelongsAt block_from key blocks i → begun blocks key ≡ i
begun_belongs key blocks i h = omega (arith, begun_behind key blocks i h.within h.in_front, begun_before key (drop i blocks) h.behind)

itself_not : (key : List ℕ) → before key key ≡ false
itself_not key = no (before key key) (not_itself key)
  where
    no : (b : Bool) → (b ≡ true → ⊥) → b ≡ false
    no true h = absurd (h refl)
    no false h = refl

begun_stands : (key : List ℕ) (blocks : List Block) (i : ℕ) (d : Block) → rise block_from blocks ≡ true → StandsAt block_from key blocks i → begun blocks key ≡ suc i
begun_stands key blocks i d e h =
    let rest : drop i blocks ≡ get_or blocks i d ∷ drop (suc i) blocks = drop-cons blocks i d h.within in
    let first : begun (get_or blocks i d ∷ drop (suc i) blocks) key ≡ suc (begun (drop (suc i) blocks) key) =
    ap (λ t. cond t 0 (suc (begun (drop (suc i) blocks) key))) (ap (before key) (h.key_is d) ∙ itself_not key) in
    let w = h.within in
    omega (
      arith,
      w,
      begun_behind key blocks i (omega (arith, w)) (in_front_of block_from key blocks i d e h),
      ap (λ (l : List Block). begun l key) rest,
      first,
      begun_before key (drop (suc i) blocks) (behind_it block_from key blocks i d e h),
    )

pub block_there : (key : List ℕ) (blocks : List Block) (i : ℕ) → rise block_from blocks ≡ true → StandsAt block_from key blocks i → i ≡ block_at blocks key
block_there key [] i e h = let w = h.within in absurd (omega (arith, w))
block_there key (b ∷ blocks) i e h = omega (arith, begun_stands key (b ∷ blocks) i b e h)

pub block_before : (key : List ℕ) (blocks : List Block) (i : ℕ) → BelongsAt block_from key blocks i → i - 1 ≡ block_at blocks key
block_before key blocks i h = omega (arith, begun_belongs key blocks i h)

-- ---- a key and the rows around it

behind_of_all : (rows : List Row) (key from : List ℕ) (end : Option (List ℕ)) → before key from ≡ true → all_in from end rows ≡ true → AllBehind row_key key rows
behind_of_all [] key from end e h = tt
behind_of_all (r ∷ rows) key from end e h =
    let here = both_left (is_in from end r.key.0) (all_in from end rows) h in
    let low = not_of (before r.key.0 from) (both_left (not (before r.key.0 from)) (is_under end r.key.0) here) in
    (between key r.key.0 from e low, behind_of_all rows key from end e (both_right (is_in from end r.key.0) (all_in from end rows) h))

before_of_all : (rows : List Row) (key from end : List ℕ) → before key end ≡ false → all_in from (Some end) rows ≡ true → AllBefore row_key rows key
before_of_all [] key from end e h = tt
before_of_all (r ∷ rows) key from end e h =
    let here = both_left (is_in from (Some end) r.key.0) (all_in from (Some end) rows) h in
    let high = both_right (not (before r.key.0 from)) (before r.key.0 end) here in
    (between r.key.0 key end high e, before_of_all rows key from end e (both_right (is_in from (Some end) r.key.0) (all_in from (Some end) rows) h))

above : (blocks : List Block) (b : Block) (key : List ℕ) → before key (block_from b) ≡ true → are_parted (b ∷ blocks) ≡ true → AllBehind row_key key (rows_in_blocks (b ∷ blocks))
above [] b key e p = behind_append row_key key (block_rows b) [] (behind_of_all (block_rows b) key (block_from b) None e (own b [] p)) tt
above (c ∷ blocks) b key e p =
    behind_append row_key key (block_rows b) (rows_in_blocks (c ∷ blocks)) (behind_of_all (block_rows b) key (block_from b) (Some (block_from c)) e (own b (c ∷ blocks) p))
    (above blocks c key (passes key (block_from b) (block_from c) e (under_next b (c ∷ blocks) p)) (others b (c ∷ blocks) p))

-- the rows of a block before the next that has begun
before_begun : (rows : List Row) (blocks : List Block) (key from : List ℕ) (n : ℕ) → begun blocks key ≡ suc n → all_in from (next blocks) rows ≡ true → AllBefore row_key rows key
before_begun rows [] key from n e h = absurd (omega (arith, e))
before_begun rows (b ∷ blocks) key from n e h = before_of_all rows key from (block_from b) (begun_first b blocks key n e).0 h

pub record Falls (front : List Block) (b : Block) (back : List Block) (key : List ℕ) : Type 0 where
  pub in_front : AllBefore row_key (rows_in_blocks front) key
  pub here : is_in (block_from b) (next back) key ≡ true
  pub behind : AllBehind row_key key (rows_in_blocks back)

pub falls : (front : List Block) (b : Block) (back : List Block) (key : List ℕ) → are_parted (front ++ b ∷ back) ≡ true → begun (front ++ b ∷ back) key ≡ suc (length front) → Falls front b back key
falls [] b [] key p n =
    let first = begun_first b [] key 0 n in
    record { in_front = tt; here = both (not (before key (block_from b))) true (to_not (before key (block_from b)) first.0) refl; behind = tt }
falls [] b (c ∷ back) key p n =
    let first = begun_first b (c ∷ back) key 0 n in
    let second = begun_none c back key first.1 in
    record {
      in_front = tt;
      here = both (not (before key (block_from b))) (before key (block_from c)) (to_not (before key (block_from b)) first.0) second;
      behind = above back c key second (others b (c ∷ back) p);
    }
falls (f ∷ front) b back key p n =
    let first = begun_first f (front ++ b ∷ back) key (suc (length front)) n in
    let rest = falls front b back key (others f (front ++ b ∷ back) p) first.1 in
    record {
      in_front = before_append row_key (block_rows f) (rows_in_blocks front) key (before_begun (block_rows f) (front ++ b ∷ back) key (block_from f) (length front) first.1 (own f (front ++ b ∷ back) p)) rest.in_front;
      here = rest.here;
      behind = rest.behind;
    }

-- a key falls between those in front of its block and those behind
pub falls_at : (blocks : List Block) (key : List ℕ) (i : ℕ) (b : Block) → are_parted blocks ≡ true → are_whole blocks ≡ true → i < length blocks → i ≡ block_at blocks key → b ≡ get_or blocks i b → Falls (take i blocks) b (drop (suc i) blocks) key
falls_at blocks key i b p w inside is here =
    let is_split : blocks ≡ take i blocks ++ b ∷ drop (suc i) blocks = parted block_from blocks i b inside ∙ ap (λ (x : Block). take i blocks ++ x ∷ drop (suc i) blocks) (sym here) in
    let count : length (take i blocks) ≡ i = length-take-le i blocks (omega (arith, inside)) in
    let n : begun blocks key ≡ suc (length (take i blocks)) = omega (arith, begun_whole blocks key w (omega (arith, inside)), is, count) in
    falls (take i blocks) b (drop (suc i) blocks) key (ap are_parted (sym is_split) ∙ p) (ap (λ (l : List Block). begun l key) (sym is_split) ∙ n)

pub rows_around : (blocks : List Block) (i : ℕ) (b : Block) → i < length blocks → b ≡ get_or blocks i b → rows_in_blocks blocks ≡ rows_in_blocks (take i blocks) ++ (block_rows b ++ rows_in_blocks (drop (suc i) blocks))
rows_around blocks i b inside here =
    ap rows_in_blocks (parted block_from blocks i b inside ∙ ap (λ (x : Block). take i blocks ++ x ∷ drop (suc i) blocks) (sym here))
    ∙ rows_append (take i blocks) (b ∷ drop (suc i) blocks)

-- ---- a look-up

at_behind : (front rows : List Row) (key : List ℕ) → AllBefore row_key front key → at (front ++ rows) key ≡ at rows key
at_behind [] rows key h = refl
at_behind (r ∷ front) rows key h = rw (behind_differs key r.key.0 h.0) (at_behind front rows key h.1)

at_front : (rows back : List Row) (key : List ℕ) → AllBehind row_key key back → at (rows ++ back) key ≡ at rows key
at_front [] back key h = none_behind back key h
at_front (r ∷ rows) back key h = ap (λ (o : Option (List ℕ)). cond (same_key key r.key.0) (Some r.value) o) (at_front rows back key h)

pub at_block : (blocks : List Block) (key : List ℕ) (i : ℕ) (b : Block) → are_parted blocks ≡ true → are_whole blocks ≡ true → i < length blocks → i ≡ block_at blocks key → b ≡ get_or blocks i b → at (rows_in_blocks blocks) key ≡ at (block_rows b) key
at_block blocks key i b p w inside is here =
    let f = falls_at blocks key i b p w inside is here in
    ap (λ (l : List Row). at l key) (rows_around blocks i b inside here)
    ∙ at_behind (rows_in_blocks (take i blocks)) (block_rows b ++ rows_in_blocks (drop (suc i) blocks)) key f.in_front
    ∙ at_front (block_rows b) (rows_in_blocks (drop (suc i) blocks)) key f.behind
