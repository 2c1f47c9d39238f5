-- What a change in one block makes of all registers.
use Rattle.std.proofs.Common.{◌≡◌, ℕ, zero, suc, ◌+◌, ◌-◌, ◌<◌, ◌≤◌, Bool, true, false, cond, List, [], ◌∷◌, ◌++◌, length, take, drop, get_or, Option, Some, None, refl, sym, ap, subst, ◌∙◌, arith}
use Rattle.std.specs.Prelude.{◌==◌, not, ◌&&◌}
use Rattle.std.specs.List.{insert, remove}
use Rattle.std.proofs.Math.ListN.{set}
use Rattle.std.proofs.lemmas.List.{set_split, length-take-le, get_or_default}
use Rattle.std.proofs.Math.Dec.{eqb-suc-suc}
use Rattle.cad_accounts.specs.declared.row.Row.{Row}
use Rattle.cad_accounts.specs.declared.block.Block.{Block}
use Rattle.cad_accounts.specs.Memory.{block_rows, rows_in_blocks, begun, block_at, spare, spare_at}
use Rattle.cad_accounts.specs.Code.Blocks.{block_from, next, is_under, is_in, all_in, are_parted, is_least, are_whole, rows_at, Spends, Widens}
use Rattle.cad_accounts.specs.Code.Places.{past, StandsAt, BelongsAt}
use Rattle.cad_accounts.specs.KeyOrder.{row_key, before}
use Rattle.cad_accounts.proofs.Order.{both_left, both_right, both, parted}
use Rattle.cad_accounts.proofs.Middle.{insert_middle, remove_middle, set_middle, stands_middle, belongs_middle, inside_middle}
use Rattle.cad_accounts.proofs.Blocks.{own, under_next, others, rows_append, rows_around, Falls, falls_at}

-- ---- the rows of one block stay where they belong

module _ (from : List ℕ) (end : Option (List ℕ)) where
  first_in : (r : Row) (rows : List Row) → all_in from end (r ∷ rows) ≡ true → is_in from end r.key.0 ≡ true
  first_in r rows e = both_left (is_in from end r.key.0) (all_in from end rows) e

  rest_in : (r : Row) (rows : List Row) → all_in from end (r ∷ rows) ≡ true → all_in from end rows ≡ true
  rest_in r rows e = both_right (is_in from end r.key.0) (all_in from end rows) e

  more_in : (r : Row) (rows : List Row) → is_in from end r.key.0 ≡ true → all_in from end rows ≡ true → all_in from end (r ∷ rows) ≡ true
  more_in r rows e h = both (is_in from end r.key.0) (all_in from end rows) e h

  pub in_insert : (rows : List Row) (i : ℕ) (row : Row) → all_in from end rows ≡ true → is_in from end row.key.0 ≡ true → all_in from end (insert rows i row) ≡ true
  in_insert rows zero row e h = more_in row rows h e
  in_insert [] (suc i) row e h = more_in row [] h refl
  in_insert (r ∷ rows) (suc i) row e h = more_in r (insert rows i row) (first_in r rows e) (in_insert rows i row (rest_in r rows e) h)

  pub in_remove : (rows : List Row) (i : ℕ) → all_in from end rows ≡ true → all_in from end (remove rows i) ≡ true
  in_remove [] zero e = refl
  in_remove [] (suc i) e = refl
  in_remove (r ∷ rows) zero e = rest_in r rows e
  in_remove (r ∷ rows) (suc i) e = more_in r (remove rows i) (first_in r rows e) (in_remove rows i (rest_in r rows e))

  pub in_set : (rows : List Row) (i : ℕ) (row : Row) → all_in from end rows ≡ true → StandsAt row_key row.key.0 rows i → all_in from end (set rows i row) ≡ true
  in_set [] i row e h = refl
  in_set (r ∷ rows) zero row e h = more_in row rows (ap (is_in from end) (sym (h.key_is r)) ∙ first_in r rows e) (rest_in r rows e)
  in_set (r ∷ rows) (suc i) row e h =
      let w = h.within in
      more_in r (set rows i row) (first_in r rows e) (in_set rows i row (rest_in r rows e) (record { within = omega (arith, w); key_is = h.key_is }))

-- ---- another block in the place of one that begins at the same key

own_in : (front : List Block) (b : Block) (back : List Block) → are_parted (front ++ b ∷ back) ≡ true → all_in (block_from b) (next back) (block_rows b) ≡ true
own_in [] b back p = own b back p
own_in (f ∷ front) b back p = own_in front b back (others f (front ++ b ∷ back) p)

next_same : (front : List Block) (was new : Block) (back : List Block) → block_from new ≡ block_from was → next (front ++ was ∷ back) ≡ next (front ++ new ∷ back)
next_same [] was new back e = ap (λ (k : List ℕ). Some k) (sym e)
next_same (f ∷ front) was new back e = refl

both_parts : (end : Option (List ℕ)) (b : Block) (blocks : List Block) → all_in (block_from b) end (block_rows b) ≡ true → is_under end (block_from b) ≡ true → are_parted blocks ≡ true → (all_in (block_from b) end (block_rows b) && (is_under end (block_from b) && are_parted blocks)) ≡ true
both_parts end b blocks e f p = both (all_in (block_from b) end (block_rows b)) (is_under end (block_from b) && are_parted blocks) e (both (is_under end (block_from b)) (are_parted blocks) f p)

pub parts : (b : Block) (blocks : List Block) → all_in (block_from b) (next blocks) (block_rows b) ≡ true → is_under (next blocks) (block_from b) ≡ true → are_parted blocks ≡ true → are_parted (b ∷ blocks) ≡ true
parts b blocks e f p = both_parts (next blocks) b blocks e f p

parted_new : (front : List Block) (was new : Block) (back : List Block) → are_parted (front ++ was ∷ back) ≡ true → block_from new ≡ block_from was → all_in (block_from was) (next back) (block_rows new) ≡ true → are_parted (front ++ new ∷ back) ≡ true
parted_new [] was new back p e h =
    parts new back (ap (λ (k : List ℕ). all_in k (next back) (block_rows new)) e ∙ h) (ap (is_under (next back)) e ∙ under_next was back p) (others was back p)
parted_new (f ∷ front) was new back p e h =
    let same = next_same front was new back e in
    parts f (front ++ new ∷ back)
    (ap (λ (end : Option (List ℕ)). all_in (block_from f) end (block_rows f)) (sym same) ∙ own f (front ++ was ∷ back) p)
    (ap (λ (end : Option (List ℕ)). is_under end (block_from f)) (sym same) ∙ under_next f (front ++ was ∷ back) p)
    (parted_new front was new back (others f (front ++ was ∷ back) p) e h)

whole_new : (front : List Block) (was new : Block) (back : List Block) → are_whole (front ++ was ∷ back) ≡ true → block_from new ≡ block_from was → are_whole (front ++ new ∷ back) ≡ true
whole_new [] was new back w e = ap is_least e ∙ w
whole_new (f ∷ front) was new back w e = w

begun_new : (front : List Block) (was new : Block) (back : List Block) (key : List ℕ) → block_from new ≡ block_from was → begun (front ++ new ∷ back) key ≡ begun (front ++ was ∷ back) key
begun_new [] was new back key e = ap (λ (k : List ℕ). cond (before key k) 0 (suc (begun back key))) e
begun_new (f ∷ front) was new back key e = ap (λ n. cond (before key (block_from f)) 0 (suc n)) (begun_new front was new back key e)

same_suc : (n k : ℕ) → (suc n == suc k) ≡ (n == k)
same_suc n k = eqb-suc-suc n k

spare_new : (front : List Block) (was new : Block) (back : List Block) (k : ℕ) → spare was ≤ spare new + 1 → spare_at (front ++ was ∷ back) k ≤ spare_at (front ++ new ∷ back) k + cond (length front == k) 1 0
spare_new [] was new back zero h = h
spare_new [] was new back (suc k) h = omega arith
spare_new (f ∷ front) was new back zero h = omega arith
spare_new (f ∷ front) was new back (suc k) h =
    subst (λ t. spare_at (front ++ was ∷ back) k ≤ spare_at (front ++ new ∷ back) k + cond t 1 0) (sym (same_suc (length front) k)) (spare_new front was new back k h)

spare_more : (front : List Block) (was new : Block) (back : List Block) (k : ℕ) → spare was ≤ spare new → spare_at (front ++ was ∷ back) k ≤ spare_at (front ++ new ∷ back) k
spare_more [] was new back zero h = h
spare_more [] was new back (suc k) h = omega arith
spare_more (f ∷ front) was new back zero h = omega arith
spare_more (f ∷ front) was new back (suc k) h = spare_more front was new back k h

spare_set : (blocks : List Block) (i : ℕ) (new : Block) → i < length blocks → spare_at (set blocks i new) i ≡ spare new
spare_set [] i new h = absurd (omega (arith, h))
spare_set (b ∷ blocks) zero new h = refl
spare_set (b ∷ blocks) (suc i) new h = spare_set blocks i new (omega (arith, h))

module _ (blocks : List Block) (i : ℕ) (was new : Block) (inside : i < length blocks) (here : was ≡ get_or blocks i was) where
  around : blocks ≡ take i blocks ++ was ∷ drop (suc i) blocks
  around = parted block_from blocks i was inside ∙ ap (λ (x : Block). take i blocks ++ x ∷ drop (suc i) blocks) (sym here)

  changed : set blocks i new ≡ take i blocks ++ new ∷ drop (suc i) blocks
  changed = set_split blocks i new inside

  pub rows_new : rows_in_blocks (set blocks i new) ≡ rows_in_blocks (take i blocks) ++ (block_rows new ++ rows_in_blocks (drop (suc i) blocks))
  rows_new = ap rows_in_blocks changed ∙ rows_append (take i blocks) (new ∷ drop (suc i) blocks)

  pub own_rows : are_parted blocks ≡ true → all_in (block_from was) (next (drop (suc i) blocks)) (block_rows was) ≡ true
  own_rows p = own_in (take i blocks) was (drop (suc i) blocks) (ap are_parted (sym around) ∙ p)

  pub parted_edit : are_parted blocks ≡ true → block_from new ≡ block_from was → all_in (block_from was) (next (drop (suc i) blocks)) (block_rows new) ≡ true → are_parted (set blocks i new) ≡ true
  parted_edit p e h = ap are_parted changed ∙ parted_new (take i blocks) was new (drop (suc i) blocks) (ap are_parted (sym around) ∙ p) e h

  pub whole_edit : are_whole blocks ≡ true → block_from new ≡ block_from was → are_whole (set blocks i new) ≡ true
  whole_edit w e = ap are_whole changed ∙ whole_new (take i blocks) was new (drop (suc i) blocks) (ap are_whole (sym around) ∙ w) e

  begun_edit : (key : List ℕ) → block_from new ≡ block_from was → begun (set blocks i new) key ≡ begun blocks key
  begun_edit key e =
      ap (λ (l : List Block). begun l key) changed
      ∙ begun_new (take i blocks) was new (drop (suc i) blocks) key e
      ∙ ap (λ (l : List Block). begun l key) (sym around)

  pub spends_edit : block_from new ≡ block_from was → spare was ≤ spare new + 1 → Spends i blocks (set blocks i new)
  spends_edit e h = record {
    places = λ key. ap (λ n. n - 1) (begun_edit key e);
    room = λ k.
        subst (λ (l : List Block). spare_at blocks k ≤ spare_at l k + cond (i == k) 1 0) (sym changed)
        (subst (λ n. spare_at blocks k ≤ spare_at (take i blocks ++ new ∷ drop (suc i) blocks) k + cond (n == k) 1 0) (length-take-le i blocks (omega (arith, inside)))
        (subst (λ (l : List Block). spare_at l k ≤ spare_at (take i blocks ++ new ∷ drop (suc i) blocks) k + cond (length (take i blocks) == k) 1 0) (sym around)
        (spare_new (take i blocks) was new (drop (suc i) blocks) k h)));
  }

  pub widens_edit : (more : ℕ) → block_from new ≡ block_from was → spare was ≤ spare new → more ≤ spare new → Widens i more blocks (set blocks i new)
  widens_edit more e h enough = record {
    places = λ key. ap (λ n. n - 1) (begun_edit key e);
    room = λ k.
        subst (λ (l : List Block). spare_at blocks k ≤ spare_at l k) (sym changed)
        (subst (λ (l : List Block). spare_at l k ≤ spare_at (take i blocks ++ new ∷ drop (suc i) blocks) k) (sym around) (spare_more (take i blocks) was new (drop (suc i) blocks) k h));
    here = omega (arith, enough, spare_set blocks i new inside);
  }

  pub rows_inserted : (j : ℕ) (row : Row) → j ≤ length (block_rows was) → block_rows new ≡ insert (block_rows was) j row → rows_in_blocks (set blocks i new) ≡ insert (rows_in_blocks blocks) (past (rows_in_blocks (take i blocks)) j) row
  rows_inserted j row within e =
      rows_new
      ∙ ap (λ (l : List Row). rows_in_blocks (take i blocks) ++ (l ++ rows_in_blocks (drop (suc i) blocks))) e
      ∙ sym (insert_middle (rows_in_blocks (take i blocks)) (block_rows was) (rows_in_blocks (drop (suc i) blocks)) j row within)
      ∙ ap (λ (l : List Row). insert l (past (rows_in_blocks (take i blocks)) j) row) (sym (rows_around blocks i was inside here))

  pub rows_removed : (j : ℕ) → j < length (block_rows was) → block_rows new ≡ remove (block_rows was) j → rows_in_blocks (set blocks i new) ≡ remove (rows_in_blocks blocks) (past (rows_in_blocks (take i blocks)) j)
  rows_removed j within e =
      rows_new
      ∙ ap (λ (l : List Row). rows_in_blocks (take i blocks) ++ (l ++ rows_in_blocks (drop (suc i) blocks))) e
      ∙ sym (remove_middle (rows_in_blocks (take i blocks)) (block_rows was) (rows_in_blocks (drop (suc i) blocks)) j within)
      ∙ ap (λ (l : List Row). remove l (past (rows_in_blocks (take i blocks)) j)) (sym (rows_around blocks i was inside here))

  pub rows_replaced : (j : ℕ) (row : Row) → j < length (block_rows was) → block_rows new ≡ set (block_rows was) j row → rows_in_blocks (set blocks i new) ≡ set (rows_in_blocks blocks) (past (rows_in_blocks (take i blocks)) j) row
  rows_replaced j row within e =
      rows_new
      ∙ ap (λ (l : List Row). rows_in_blocks (take i blocks) ++ (l ++ rows_in_blocks (drop (suc i) blocks))) e
      ∙ sym (set_middle (rows_in_blocks (take i blocks)) (block_rows was) (rows_in_blocks (drop (suc i) blocks)) j row within)
      ∙ ap (λ (l : List Row). set l (past (rows_in_blocks (take i blocks)) j) row) (sym (rows_around blocks i was inside here))

  pub stands_in_all : (key : List ℕ) (j : ℕ) → StandsAt row_key key (block_rows was) j → StandsAt row_key key (rows_in_blocks blocks) (past (rows_in_blocks (take i blocks)) j)
  stands_in_all key j h =
      subst (λ (l : List Row). StandsAt row_key key l (past (rows_in_blocks (take i blocks)) j)) (sym (rows_around blocks i was inside here))
      (stands_middle row_key key (rows_in_blocks (take i blocks)) (block_rows was) (rows_in_blocks (drop (suc i) blocks)) j h)

  pub inside_all : (j : ℕ) → j < length (block_rows was) → past (rows_in_blocks (take i blocks)) j < length (rows_in_blocks blocks)
  inside_all j h =
      subst (λ (l : List Row). past (rows_in_blocks (take i blocks)) j < length l) (sym (rows_around blocks i was inside here))
      (inside_middle (rows_in_blocks (take i blocks)) (block_rows was) (rows_in_blocks (drop (suc i) blocks)) j h)

  pub belongs_in_all : (key : List ℕ) (j : ℕ) → are_parted blocks ≡ true → are_whole blocks ≡ true → i ≡ block_at blocks key → BelongsAt row_key key (block_rows was) j → BelongsAt row_key key (rows_in_blocks blocks) (past (rows_in_blocks (take i blocks)) j)
  belongs_in_all key j p w is h =
      let f = falls_at blocks key i was p w inside is here in
      subst (λ (l : List Row). BelongsAt row_key key l (past (rows_in_blocks (take i blocks)) j)) (sym (rows_around blocks i was inside here))
      (belongs_middle row_key key (rows_in_blocks (take i blocks)) (block_rows was) (rows_in_blocks (drop (suc i) blocks)) j f.in_front f.behind h)

-- ---- the rows at an index

pub rows_there : (blocks : List Block) (i : ℕ) (d : Block) → i < length blocks → rows_at blocks i ≡ block_rows (get_or blocks i d)
rows_there [] i d h = absurd (omega (arith, h))
rows_there (b ∷ blocks) zero d h = refl
rows_there (b ∷ blocks) (suc i) d h = rows_there blocks i d (omega (arith, h))

pub spare_there : (blocks : List Block) (i : ℕ) (d : Block) → i < length blocks → spare_at blocks i ≡ spare (get_or blocks i d)
spare_there [] i d h = absurd (omega (arith, h))
spare_there (b ∷ blocks) zero d h = refl
spare_there (b ∷ blocks) (suc i) d h = spare_there blocks i d (omega (arith, h))

pub same_block : (blocks : List Block) (i : ℕ) (b c : Block) → i < length blocks → b ≡ get_or blocks i b → c ≡ get_or blocks i c → b ≡ c
same_block blocks i b c inside e f = e ∙ get_or_default blocks i b c inside ∙ sym f
