-- What the split of a block makes of all, and the promises that are kept by it.
use Rattle.std.proofs.Common.{◌≡◌, ◌⊎◌, ℕ, zero, suc, ◌+◌, ◌-◌, ◌<◌, ◌≤◌, ◌^◌, Bool, true, false, cond, List, [], ◌∷◌, ◌++◌, length, take, drop, get_or, Option, Some, None, Result, Ok, Err, refl, sym, ap, subst, ◌∙◌, arith, inl, inr}
use Rattle.std.specs.Prelude.{◌==◌, not, ◌&&◌, sum_by}
use Rattle.std.specs.List.{insert}
use Rattle.std.proofs.Math.ListN.{set}
use Rattle.std.proofs.Math.Seq.{take-suc, take-length, drop-cons}
use Rattle.std.proofs.lemmas.Bool.Decides.{nat_tests}
use Rattle.std.proofs.lemmas.Bool.{cases_Bool, false_from_ne_true}
use Rattle.std.proofs.lemmas.List.{set_split, length-take-le, take-append-drop, append_assoc, length-append}
use Rattle.cad_wire.specs.declared.entry.Entry.{Entry}
use Rattle.cad_accounts.specs.declared.row.Row.{Row}
use Rattle.cad_accounts.specs.declared.block.Block.{Block}
use Rattle.cad_accounts.specs.Registers.{are_rising}
use Rattle.cad_accounts.specs.Memory.{block_rows, rows_in_blocks, begun, block_at, spare, spare_at, falling}
use Rattle.cad_accounts.specs.Code.Blocks.{block_from, next, is_under, is_in, all_in, are_parted, is_least, are_whole, Keeps, Parts, Widens, AllFrom, Cuts, Promised}
use Rattle.cad_accounts.specs.Code.Rows.{row_size, are_short}
use Rattle.cad_accounts.specs.Code.Places.{past, entry_key, AllBefore, AllBehind, StandsAt, BelongsAt}
use Rattle.cad_accounts.specs.KeyOrder.{row_key, before, rise}
use Rattle.cad_accounts.proofs.Keys.{passes, not_back, not_itself}
use Rattle.cad_accounts.proofs.Order.{both_left, both_right, both, parted, before_of, in_front_of, behind_it}
use Rattle.cad_accounts.proofs.Middle.{before_append, insert_middle, past_length}
use Rattle.cad_accounts.proofs.Blocks.{own, under_next, others, rows_append, rows_around, to_not, not_of, Falls, falls, falls_at, begun_whole, at_within}
use Rattle.cad_accounts.proofs.BlockEdits.{parts, own_rows, parted_edit, whole_edit, rows_new, spends_edit, spare_there}
use Rattle.cad_accounts.proofs.Storing.{Stored}

-- ---- where the rows are cut

all_from : (key : List ℕ) (rows : List Row) → AllBehind row_key key rows → AllFrom key rows
all_from key [] h = tt
all_from key (r ∷ rows) h = (not_back key r.key.0 h.0, all_from key rows h.1)

itself_not : (b : Bool) → (b ≡ true → ⊥) → b ≡ false
itself_not true h = absurd (h refl)
itself_not false h = refl

pub cuts_there : (key : List ℕ) (rows : List Row) (i : ℕ) → are_rising rows ≡ true → StandsAt row_key key rows i → Cuts key rows i
cuts_there key [] i e h = let w = h.within in absurd (omega (arith, w))
cuts_there key (r ∷ rows) i e h =
    let all = r ∷ rows in
    let w = h.within in
    let here : before (get_or all i r).key.0 key ≡ false = ap (λ (k : List ℕ). before k key) (h.key_is r) ∙ itself_not (before key key) (not_itself key) in
    record {
      within = omega (arith, w);
      front = in_front_of row_key key all i r e h;
      back = subst (AllFrom key) (sym (drop-cons all i r w)) (here, all_from key (drop (suc i) all) (behind_it row_key key all i r e h));
    }

pub cuts_before : (key : List ℕ) (rows : List Row) (i : ℕ) → BelongsAt row_key key rows i → Cuts key rows i
cuts_before key rows i h = record { within = h.within; front = h.in_front; back = all_from key (drop i rows) h.behind }

-- ---- the two parts of a block

in_left : (from : List ℕ) (end : Option (List ℕ)) (xs ys : List Row) → all_in from end (xs ++ ys) ≡ true → all_in from end xs ≡ true
in_left from end [] ys e = refl
in_left from end (x ∷ xs) ys e =
    both (is_in from end x.key.0) (all_in from end xs) (both_left (is_in from end x.key.0) (all_in from end (xs ++ ys)) e)
    (in_left from end xs ys (both_right (is_in from end x.key.0) (all_in from end (xs ++ ys)) e))

in_right : (from : List ℕ) (end : Option (List ℕ)) (xs ys : List Row) → all_in from end (xs ++ ys) ≡ true → all_in from end ys ≡ true
in_right from end [] ys e = e
in_right from end (x ∷ xs) ys e = in_right from end xs ys (both_right (is_in from end x.key.0) (all_in from end (xs ++ ys)) e)

in_front_part : (from key : List ℕ) (end : Option (List ℕ)) (rows : List Row) → all_in from end rows ≡ true → AllBefore row_key rows key → all_in from (Some key) rows ≡ true
in_front_part from key end [] e h = refl
in_front_part from key end (r ∷ rows) e h =
    let here = both_left (not (before r.key.0 from)) (is_under end r.key.0) (both_left (is_in from end r.key.0) (all_in from end rows) e) in
    both (is_in from (Some key) r.key.0) (all_in from (Some key) rows) (both (not (before r.key.0 from)) (before r.key.0 key) here h.0)
    (in_front_part from key end rows (both_right (is_in from end r.key.0) (all_in from end rows) e) h.1)

in_back_part : (from key : List ℕ) (end : Option (List ℕ)) (rows : List Row) → all_in from end rows ≡ true → AllFrom key rows → all_in key end rows ≡ true
in_back_part from key end [] e h = refl
in_back_part from key end (r ∷ rows) e h =
    let here = both_right (not (before r.key.0 from)) (is_under end r.key.0) (both_left (is_in from end r.key.0) (all_in from end rows) e) in
    both (is_in key end r.key.0) (all_in key end rows) (both (not (before r.key.0 key)) (is_under end r.key.0) (to_not (before r.key.0 key) h.0) here)
    (in_back_part from key end rows (both_right (is_in from end r.key.0) (all_in from end rows) e) h.1)

-- ---- all blocks around them

next_kept : (front : List Block) (b b1 b2 : Block) (back : List Block) → block_from b1 ≡ block_from b → next (front ++ b ∷ back) ≡ next (front ++ b1 ∷ b2 ∷ back)
next_kept [] b b1 b2 back e = ap (λ (k : List ℕ). Some k) (sym e)
next_kept (f ∷ front) b b1 b2 back e = refl

parted_two : (front : List Block) (b b1 b2 : Block) (back : List Block) → are_parted (front ++ b ∷ back) ≡ true → block_from b1 ≡ block_from b → all_in (block_from b) (Some (block_from b2)) (block_rows b1) ≡ true → all_in (block_from b2) (next back) (block_rows b2) ≡ true → before (block_from b) (block_from b2) ≡ true → is_under (next back) (block_from b2) ≡ true → are_parted (front ++ b1 ∷ b2 ∷ back) ≡ true
parted_two [] b b1 b2 back p e low high lt under =
    parts b1 (b2 ∷ back) (ap (λ (k : List ℕ). all_in k (Some (block_from b2)) (block_rows b1)) e ∙ low) (ap (λ (k : List ℕ). before k (block_from b2)) e ∙ lt)
    (parts b2 back high under (others b back p))
parted_two (f ∷ front) b b1 b2 back p e low high lt under =
    let same = next_kept front b b1 b2 back e in
    parts f (front ++ b1 ∷ b2 ∷ back)
    (ap (λ (end : Option (List ℕ)). all_in (block_from f) end (block_rows f)) (sym same) ∙ own f (front ++ b ∷ back) p)
    (ap (λ (end : Option (List ℕ)). is_under end (block_from f)) (sym same) ∙ under_next f (front ++ b ∷ back) p)
    (parted_two front b b1 b2 back (others f (front ++ b ∷ back) p) e low high lt under)

whole_two : (front : List Block) (b b1 b2 : Block) (back : List Block) → are_whole (front ++ b ∷ back) ≡ true → block_from b1 ≡ block_from b → are_whole (front ++ b1 ∷ b2 ∷ back) ≡ true
whole_two [] b b1 b2 back w e = ap is_least e ∙ w
whole_two (f ∷ front) b b1 b2 back w e = w

-- nothing behind has begun at what stands before it
begun_under : (back : List Block) (key : List ℕ) → is_under (next back) key ≡ true → begun back key ≡ 0
begun_under [] key h = refl
begun_under (c ∷ back) key h = ap (λ t. cond t 0 (suc (begun back key))) h

under_less : (end : Option (List ℕ)) (a b : List ℕ) → before a b ≡ true → is_under end b ≡ true → is_under end a ≡ true
under_less None a b lt h = refl
under_less (Some end) a b lt h = passes a b end lt h

begun_two : (front : List Block) (b b1 b2 : Block) (back : List Block) (key : List ℕ) → block_from b1 ≡ block_from b → is_under (next back) (block_from b2) ≡ true → before key (block_from b2) ≡ true → begun (front ++ b1 ∷ b2 ∷ back) key ≡ begun (front ++ b ∷ back) key
begun_two [] b b1 b2 back key e under lt =
    let none : begun (b2 ∷ back) key ≡ 0 = ap (λ t. cond t 0 (suc (begun back key))) lt in
    let behind : begun back key ≡ 0 = begun_under back key (under_less (next back) key (block_from b2) lt under) in
    ap (λ n. cond (before key (block_from b1)) 0 (suc n)) (none ∙ sym behind) ∙ ap (λ (k : List ℕ). cond (before key k) 0 (suc (begun back key))) e
begun_two (f ∷ front) b b1 b2 back key e under lt = ap (λ n. cond (before key (block_from f)) 0 (suc n)) (begun_two front b b1 b2 back key e under lt)

less_test : (t : Bool) (m n : ℕ) → m ≤ n → cond t 0 (suc m) ≤ cond t 0 (suc n)
less_test true m n h = omega arith
less_test false m n h = omega (arith, h)

grown_test : (t : Bool) (m : ℕ) → (t ≡ true → m ≡ 0) → m ≤ cond t 0 (suc m)
grown_test true m h = omega (arith, h refl)
grown_test false m h = omega arith

begun_more : (front : List Block) (b b1 b2 : Block) (back : List Block) (key : List ℕ) → block_from b1 ≡ block_from b → is_under (next back) (block_from b2) ≡ true → begun (front ++ b ∷ back) key ≤ begun (front ++ b1 ∷ b2 ∷ back) key
begun_more [] b b1 b2 back key e under =
    subst (λ (k : List ℕ). cond (before key (block_from b)) 0 (suc (begun back key)) ≤ cond (before key k) 0 (suc (begun (b2 ∷ back) key))) (sym e)
    (less_test (before key (block_from b)) (begun back key) (begun (b2 ∷ back) key) (grown_test (before key (block_from b2)) (begun back key) (λ lt. begun_under back key (under_less (next back) key (block_from b2) lt under))))
begun_more (f ∷ front) b b1 b2 back key e under =
    less_test (before key (block_from f)) (begun (front ++ b ∷ back) key) (begun (front ++ b1 ∷ b2 ∷ back) key) (begun_more front b b1 b2 back key e under)

spare_two : (front : List Block) (b b1 b2 : Block) (back : List Block) (k : ℕ) → spare b ≤ spare b1 → k ≤ length front → spare_at (front ++ b ∷ back) k ≤ spare_at (front ++ b1 ∷ b2 ∷ back) k
spare_two [] b b1 b2 back zero h le = h
spare_two [] b b1 b2 back (suc k) h le = absurd (omega (arith, le))
spare_two (f ∷ front) b b1 b2 back zero h le = omega arith
spare_two (f ∷ front) b b1 b2 back (suc k) h le = spare_two front b b1 b2 back k h (omega (arith, le))

rows_two : (b b1 b2 : Block) (back : List Block) (i : ℕ) → block_rows b1 ≡ take i (block_rows b) → block_rows b2 ≡ drop i (block_rows b) → rows_in_blocks (b1 ∷ b2 ∷ back) ≡ rows_in_blocks (b ∷ back)
rows_two b b1 b2 back i e f =
    sym (append_assoc (block_rows b1) (block_rows b2) (rows_in_blocks back))
    ∙ (λ j. (e j ++ f j) ++ rows_in_blocks back)
    ∙ ap (λ (l : List Row). l ++ rows_in_blocks back) (take-append-drop i (block_rows b))

-- ---- a split

pub record Split (blocks new : List Block) (count size : ℕ) (key : List ℕ) : Type 0 where
  pub rows : rows_in_blocks new ≡ rows_in_blocks blocks
  pub stored : Stored new count size
  pub keeps : Keeps key blocks new
  pub some : 0 < length new

stored_with : (blocks new : List Block) (count size : ℕ) → rows_in_blocks new ≡ rows_in_blocks blocks → are_parted new ≡ true → are_whole new ≡ true → Stored blocks count size → Stored new count size
stored_with blocks new count size e p w s = record {
  ascending = ap are_rising e ∙ s.ascending;
  short = subst (λ (l : List Row). are_short l ≡ true) (sym e) s.short;
  few = subst (λ (l : List Row). length l < 2 ^ 32) (sym e) s.few;
  counted = s.counted ∙ ap length (sym e);
  sized = s.sized ∙ ap (λ (l : List Row). sum_by row_size l) (sym e);
  parted = p;
  whole = w;
}

module _ (blocks : List Block) (i j count size : ℕ) (b b1 b2 : Block) (key : List ℕ) (s : Stored blocks count size) (inside : i < length blocks) (here : b ≡ get_or blocks i b) (place : i ≡ block_at blocks key) (lt : before (block_from b) key ≡ true) (cuts : Cuts key (block_rows b) j) (from1 : block_from b1 ≡ block_from b) (rows1 : block_rows b1 ≡ take j (block_rows b)) (from2 : block_from b2 ≡ key) (rows2 : block_rows b2 ≡ drop j (block_rows b)) (spares : spare b ≤ spare b1) where
  around : blocks ≡ take i blocks ++ b ∷ drop (suc i) blocks
  around = parted block_from blocks i b inside ∙ ap (λ (x : Block). take i blocks ++ x ∷ drop (suc i) blocks) (sym here)

  count_is : length (take i blocks) ≡ i
  count_is = length-take-le i blocks (omega (arith, inside))

  new_is : (new : List Block) → new ≡ insert (set blocks i b1) (i + 1) b2 → new ≡ take i blocks ++ b1 ∷ b2 ∷ drop (suc i) blocks
  new_is new e =
      let past_is : past (take i blocks) 1 ≡ i + 1 = omega (arith, past_length (take i blocks) 1, count_is) in
      e
      ∙ ap (λ (l : List Block). insert l (i + 1) b2) (set_split blocks i b1 inside)
      ∙ ap (λ n. insert (take i blocks ++ b1 ∷ drop (suc i) blocks) n b2) (sym past_is)
      ∙ insert_middle (take i blocks) (b1 ∷ []) (drop (suc i) blocks) 1 b2 (omega arith)

  falls_here : Falls (take i blocks) b (drop (suc i) blocks) key
  falls_here = falls_at blocks key i b s.parted s.whole inside place here

  under : is_under (next (drop (suc i) blocks)) (block_from b2) ≡ true
  under = ap (is_under (next (drop (suc i) blocks))) from2 ∙ both_right (not (before key (block_from b))) (is_under (next (drop (suc i) blocks)) key) falls_here.here

  own_part : all_in (block_from b) (next (drop (suc i) blocks)) (take j (block_rows b) ++ drop j (block_rows b)) ≡ true
  own_part = ap (all_in (block_from b) (next (drop (suc i) blocks))) (take-append-drop j (block_rows b)) ∙ own_rows blocks i b b inside here s.parted

  low : all_in (block_from b) (Some (block_from b2)) (block_rows b1) ≡ true
  low =
      (λ n. all_in (block_from b) (Some (from2 n)) (rows1 n))
      ∙ in_front_part (block_from b) key (next (drop (suc i) blocks)) (take j (block_rows b)) (in_left (block_from b) (next (drop (suc i) blocks)) (take j (block_rows b)) (drop j (block_rows b)) own_part) cuts.front

  high : all_in (block_from b2) (next (drop (suc i) blocks)) (block_rows b2) ≡ true
  high =
      (λ n. all_in (from2 n) (next (drop (suc i) blocks)) (rows2 n))
      ∙ in_back_part (block_from b) key (next (drop (suc i) blocks)) (drop j (block_rows b)) (in_right (block_from b) (next (drop (suc i) blocks)) (take j (block_rows b)) (drop j (block_rows b)) own_part) cuts.back

  same_rows : rows_in_blocks (take i blocks ++ b1 ∷ b2 ∷ drop (suc i) blocks) ≡ rows_in_blocks blocks
  same_rows =
      rows_append (take i blocks) (b1 ∷ b2 ∷ drop (suc i) blocks)
      ∙ ap (λ (l : List Row). rows_in_blocks (take i blocks) ++ l) (rows_two b b1 b2 (drop (suc i) blocks) j rows1 rows2)
      ∙ sym (rows_append (take i blocks) (b ∷ drop (suc i) blocks))
      ∙ ap rows_in_blocks (sym around)

  keeps_here : Keeps key blocks (take i blocks ++ b1 ∷ b2 ∷ drop (suc i) blocks)
  keeps_here = record {
    places = λ k less.
        ap (λ n. n - 1)
        (begun_two (take i blocks) b b1 b2 (drop (suc i) blocks) k from1 under (ap (before k) from2 ∙ less) ∙ ap (λ (l : List Block). begun l k) (sym around));
    grows = λ k.
        let more = begun_more (take i blocks) b b1 b2 (drop (suc i) blocks) k from1 under in
        let was = ap (λ (l : List Block). begun l k) around in
        omega (arith, more, was);
    room = λ k le.
        subst (λ (l : List Block). spare_at l k ≤ spare_at (take i blocks ++ b1 ∷ b2 ∷ drop (suc i) blocks) k) (sym around)
        (spare_two (take i blocks) b b1 b2 (drop (suc i) blocks) k spares (omega (arith, le, place, count_is)));
  }

  split_two : Split blocks (take i blocks ++ b1 ∷ b2 ∷ drop (suc i) blocks) count size key
  split_two =
      let p = parted_two (take i blocks) b b1 b2 (drop (suc i) blocks) (ap are_parted (sym around) ∙ s.parted) from1 low high (ap (before (block_from b)) from2 ∙ lt) under in
      let w = whole_two (take i blocks) b b1 b2 (drop (suc i) blocks) (ap are_whole (sym around) ∙ s.whole) from1 in
      record {
        rows = same_rows;
        stored = stored_with blocks (take i blocks ++ b1 ∷ b2 ∷ drop (suc i) blocks) count size same_rows p w s;
        keeps = keeps_here;
        some = omega (arith, length-append (take i blocks) (b1 ∷ b2 ∷ drop (suc i) blocks));
      }

  pub split_so : (new : List Block) → new ≡ insert (set blocks i b1) (i + 1) b2 → Split blocks new count size key
  split_so new e = subst (λ (l : List Block). Split blocks l count size key) (sym (new_is new e)) split_two

-- the rows of a block stay, and where it begins
module _ (blocks : List Block) (i : ℕ) (was new : Block) (inside : i < length blocks) (here : was ≡ get_or blocks i was) (from : block_from new ≡ block_from was) (rows : block_rows new ≡ block_rows was) where
  pub rows_same : rows_in_blocks (set blocks i new) ≡ rows_in_blocks blocks
  rows_same =
      rows_new blocks i was new inside here
      ∙ ap (λ (l : List Row). rows_in_blocks (take i blocks) ++ (l ++ rows_in_blocks (drop (suc i) blocks))) rows
      ∙ sym (rows_around blocks i was inside here)

  pub stored_same : (count size : ℕ) → Stored blocks count size → Stored (set blocks i new) count size
  stored_same count size s =
      stored_with blocks (set blocks i new) count size rows_same
      (parted_edit blocks i was new inside here s.parted from (ap (all_in (block_from was) (next (drop (suc i) blocks))) rows ∙ own_rows blocks i was new inside here s.parted))
      (whole_edit blocks i was new inside here s.whole from) s

-- nothing was split
pub keeps_all : (key : List ℕ) (blocks : List Block) → Keeps key blocks blocks
keeps_all key blocks = record { places = λ k lt. refl; grows = λ k. omega arith; room = λ k le. omega arith }
