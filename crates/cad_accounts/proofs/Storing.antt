-- What is kept of registers in blocks, and the room in them.
use Rattle.std.proofs.Common.{◌≡◌, ℕ, zero, suc, ◌+◌, ◌-◌, ◌<◌, ◌≤◌, ◌^◌, Bool, true, false, cond, List, [], ◌∷◌, ◌++◌, length, take, drop, get_or, Option, Some, refl, sym, ap, subst, ◌∙◌, arith}
use Rattle.std.specs.Prelude.{◌==◌, ◌&&◌, sum_by, not, nat_lt, IfSome}
use Rattle.std.specs.List.{insert, remove}
use Rattle.std.proofs.Math.ListN.{set}
use Rattle.std.proofs.lemmas.Bool.Decides.{nat_tests}
use Rattle.std.proofs.lemmas.List.{length-set, get_or_default}
use Rattle.std.proofs.lemmas.List.Sums.{get_or-le-sum_by}
use Rattle.std.proofs.lemmas.Bool.{lt-ltb}
use Rattle.std.proofs.lemmas.List.Edits.{length-insert, length-remove}
use Rattle.cad_wire.specs.declared.entry.Entry.{Entry}
use Rattle.cad_wire.specs.Body.{Fits}
use Rattle.cad_accounts.specs.declared.row.Row.{Row}
use Rattle.cad_accounts.specs.declared.block.Block.{Block}
use Rattle.cad_accounts.specs.declared.registers.MapRegisters.{MapRegisters}
use Rattle.cad_accounts.specs.Registers.{are_rising}
use Rattle.cad_accounts.specs.Memory.{block_rows, rows_in_blocks, block_at, spare, spare_at, falling}
use Rattle.cad_accounts.specs.Room.{rows_of, HasRoom}
use Rattle.cad_accounts.specs.Code.Rows.{row_size, is_short, are_short}
use Rattle.cad_accounts.specs.Code.Blocks.{block_from, next, is_in, all_in, are_parted, are_whole, rows_at, Spends}
use Rattle.cad_accounts.specs.Code.Places.{past, StandsAt, BelongsAt}
use Rattle.cad_accounts.specs.KeyOrder.{row_key}
use Rattle.cad_accounts.proofs.Order.{both}
use Rattle.cad_accounts.proofs.Places.{IsKept, kept_insert, kept_remove, kept_set}
use Rattle.cad_accounts.proofs.Middle.{get_middle}
use Rattle.cad_accounts.proofs.Blocks.{Falls, falls_at, rows_around, at_within}
use Rattle.cad_accounts.proofs.BlockEdits.{in_insert, in_remove, in_set, own_rows, parted_edit, whole_edit, spends_edit, rows_inserted, rows_removed, rows_replaced, stands_in_all, inside_all, belongs_in_all, rows_there, spare_there}

pub record Stored (blocks : List Block) (count size : ℕ) : Type 0 where
  pub ascending : are_rising (rows_in_blocks blocks) ≡ true
  pub short : are_short (rows_in_blocks blocks) ≡ true
  pub few : length (rows_in_blocks blocks) < 2 ^ 32
  pub counted : count ≡ length (rows_in_blocks blocks)
  pub sized : size ≡ sum_by row_size (rows_in_blocks blocks)
  pub parted : are_parted blocks ≡ true
  pub whole : are_whole blocks ≡ true

pub stored_in : (m : MapRegisters) → Stored m.blocks.items m.count m.size
stored_in m = record { ascending = m.ascending; short = m.short; few = m.few; counted = m.counted; sized = m.sized; parted = m.parted; whole = m.whole }

kept_of : (blocks : List Block) (count size : ℕ) → Stored blocks count size → IsKept (rows_in_blocks blocks) size
kept_of blocks count size s = record { ascending = s.ascending; short = s.short; few = s.few; sized = s.sized }

stored_of : (blocks : List Block) (count size : ℕ) → IsKept (rows_in_blocks blocks) size → count ≡ length (rows_in_blocks blocks) → are_parted blocks ≡ true → are_whole blocks ≡ true → Stored blocks count size
stored_of blocks count size k n p w = record { ascending = k.ascending; short = k.short; few = k.few; counted = n; sized = k.sized; parted = p; whole = w }

module _ (blocks : List Block) (i : ℕ) (was new : Block) (inside : i < length blocks) (here : was ≡ get_or blocks i was) (from : block_from new ≡ block_from was) where
  rows_was : rows_at blocks i ≡ block_rows was
  rows_was = rows_there blocks i was inside ∙ ap block_rows (sym here)

  pub stands_here : (key : List ℕ) (j : ℕ) → StandsAt row_key key (rows_at blocks i) j → StandsAt row_key key (block_rows was) j
  stands_here key j h = subst (λ (l : List Row). StandsAt row_key key l j) rows_was h

  pub belongs_here : (key : List ℕ) (j : ℕ) → BelongsAt row_key key (rows_at blocks i) j → BelongsAt row_key key (block_rows was) j
  belongs_here key j h = subst (λ (l : List Row). BelongsAt row_key key l j) rows_was h

  pub inside_here : (j : ℕ) → j < length (rows_at blocks i) → j < length (block_rows was)
  inside_here j h = subst (λ (l : List Row). j < length l) rows_was h

  pub row_there : (j : ℕ) (d : Row) → j < length (block_rows was) → d ≡ get_or (block_rows was) j d → d ≡ get_or (rows_in_blocks blocks) (past (rows_in_blocks (take i blocks)) j) d
  row_there j d h is =
      is
      ∙ sym (get_middle (rows_in_blocks (take i blocks)) (block_rows was) (rows_in_blocks (drop (suc i) blocks)) j d h)
      ∙ ap (λ (l : List Row). get_or l (past (rows_in_blocks (take i blocks)) j) d) (sym (rows_around blocks i was inside here))

  pub stored_replaced : (count size j less added : ℕ) (row old : Row) → Stored blocks count size → StandsAt row_key row.key.0 (rows_at blocks i) j → is_short row ≡ true → old ≡ get_or (block_rows was) j old → block_rows new ≡ set (block_rows was) j row → less ≡ row_size old → added ≡ row_size row → Stored (set blocks i new) count ((size - less) + added)
  stored_replaced count size j less added row old s stands short old_is rows less_is added_is =
      let h = stands_here row.key.0 j stands in
      let index = past (rows_in_blocks (take i blocks)) j in
      let is : rows_in_blocks (set blocks i new) ≡ set (rows_in_blocks blocks) index row = rows_replaced blocks i was new inside here j row h.within rows in
      let kept = kept_set (rows_in_blocks blocks) size index less added row old (kept_of blocks count size s) (stands_in_all blocks i was new inside here row.key.0 j h) short (row_there j old h.within old_is) less_is added_is in
      stored_of (set blocks i new) count ((size - less) + added)
      (subst (λ (l : List Row). IsKept l ((size - less) + added)) (sym is) kept)
      (s.counted ∙ sym (ap length is ∙ length-set (rows_in_blocks blocks) index row))
      (parted_edit blocks i was new inside here s.parted from (subst (λ (l : List Row). all_in (block_from was) (next (drop (suc i) blocks)) l ≡ true) (sym rows) (in_set (block_from was) (next (drop (suc i) blocks)) (block_rows was) j row (own_rows blocks i was new inside here s.parted) h)))
      (whole_edit blocks i was new inside here s.whole from)

  pub stored_removed : (count size j less : ℕ) (old : Row) → Stored blocks count size → j < length (rows_at blocks i) → old ≡ get_or (block_rows was) j old → block_rows new ≡ remove (block_rows was) j → less ≡ row_size old → Stored (set blocks i new) (count - 1) (size - less)
  stored_removed count size j less old s there old_is rows less_is =
      let h = inside_here j there in
      let index = past (rows_in_blocks (take i blocks)) j in
      let within = inside_all blocks i was new inside here j h in
      let is : rows_in_blocks (set blocks i new) ≡ remove (rows_in_blocks blocks) index = rows_removed blocks i was new inside here j h rows in
      let kept = kept_remove (rows_in_blocks blocks) (rows_in_blocks (set blocks i new)) size index less old (kept_of blocks count size s) within (row_there j old h old_is) is less_is in
      stored_of (set blocks i new) (count - 1) (size - less) kept
      (omega (arith, s.counted, ap length is, length-remove (rows_in_blocks blocks) index within, within))
      (parted_edit blocks i was new inside here s.parted from (subst (λ (l : List Row). all_in (block_from was) (next (drop (suc i) blocks)) l ≡ true) (sym rows) (in_remove (block_from was) (next (drop (suc i) blocks)) (block_rows was) j (own_rows blocks i was new inside here s.parted))))
      (whole_edit blocks i was new inside here s.whole from)

  pub stored_inserted : (count size j added : ℕ) (row : Row) → Stored blocks count size → length (rows_in_blocks blocks) + 1 < 2 ^ 32 → i ≡ block_at blocks row.key.0 → BelongsAt row_key row.key.0 (rows_at blocks i) j → is_short row ≡ true → block_rows new ≡ insert (block_rows was) j row → added ≡ row_size row → Stored (set blocks i new) (count + 1) (size + added)
  stored_inserted count size j added row s few place belongs short rows added_is =
      let h = belongs_here row.key.0 j belongs in
      let index = past (rows_in_blocks (take i blocks)) j in
      let all = belongs_in_all blocks i was new inside here row.key.0 j s.parted s.whole place h in
      let is : rows_in_blocks (set blocks i new) ≡ insert (rows_in_blocks blocks) index row = rows_inserted blocks i was new inside here j row h.within rows in
      let kept = kept_insert (rows_in_blocks blocks) (rows_in_blocks (set blocks i new)) size index added row (kept_of blocks count size s) few all short is added_is in
      let f = falls_at blocks row.key.0 i was s.parted s.whole inside place here in
      stored_of (set blocks i new) (count + 1) (size + added) kept
      (omega (arith, s.counted, ap length is, length-insert (rows_in_blocks blocks) index row all.within))
      (parted_edit blocks i was new inside here s.parted from (subst (λ (l : List Row). all_in (block_from was) (next (drop (suc i) blocks)) l ≡ true) (sym rows) (in_insert (block_from was) (next (drop (suc i) blocks)) (block_rows was) j row (own_rows blocks i was new inside here s.parted) f.here)))
      (whole_edit blocks i was new inside here s.whole from)

-- ---- room

pub same_falling : (old new : List Block) (i : ℕ) (changes : List Entry) → ((key : List ℕ) → block_at new key ≡ block_at old key) → falling new i changes ≡ falling old i changes
same_falling old new i [] h = refl
same_falling old new i (e ∷ changes) h = λ j. cond (h e.key.0 j == i) 1 0 + same_falling old new i changes h j

pub spent : (old new : MapRegisters) (e : Entry) (changes : List Entry) (i : ℕ) → i ≡ block_at old.blocks.items e.key.0 → Spends i old.blocks.items new.blocks.items → length (rows_of new) ≤ length (rows_of old) + 1 → HasRoom (e ∷ changes) old → HasRoom changes new
spent old new e changes i is spends few room =
    let total = room.few in
    record {
      each = λ k.
          let test = ap (λ (n : ℕ). cond {A = ℕ} (n == k) 1 0) is in
          omega (arith, test, same_falling old.blocks.items new.blocks.items k changes spends.places, room.each k, spends.room k);
      few = omega (arith, few, total);
    }

-- nothing was spent
pub unspent : (m : MapRegisters) (e : Entry) (changes : List Entry) → HasRoom (e ∷ changes) m → HasRoom changes m
unspent m e changes room =
    let total = room.few in
    record { each = λ k. omega (arith, room.each k); few = omega (arith, total) }

pub eqb_true : (n : ℕ) → (n == n) ≡ true
eqb_true n = grind (arith, nat_tests)

one_here : (blocks : List Block) (e : Entry) → falling blocks (block_at blocks e.key.0) (e ∷ []) ≡ 1
one_here blocks e = ap (λ t. cond t 1 0 + 0) (eqb_true (block_at blocks e.key.0))

pub has_spare : (m : MapRegisters) (e : Entry) → HasRoom (e ∷ []) m → 1 ≤ spare_at m.blocks.items (block_at m.blocks.items e.key.0)
has_spare m e room = omega (arith, room.each (block_at m.blocks.items e.key.0), one_here m.blocks.items e)

some_spare : (blocks : List Block) (i : ℕ) → 1 ≤ spare_at blocks i → 0 < length blocks
some_spare [] i h = absurd (omega (arith, h))
some_spare (b ∷ blocks) i h = omega arith

pub block_inside : (m : MapRegisters) (e : Entry) → HasRoom (e ∷ []) m → block_at m.blocks.items e.key.0 < length m.blocks.items
block_inside m e room = at_within m.blocks.items e.key.0 (some_spare m.blocks.items (block_at m.blocks.items e.key.0) (has_spare m e room))

-- what takes no memory for changes takes none for the first
pub first_room : (m : MapRegisters) (e : Entry) (changes : List Entry) → HasRoom (e ∷ changes) m → HasRoom (e ∷ []) m
first_room m e changes room =
    let total = room.few in
    record { each = λ k. omega (arith, room.each k); few = omega (arith, total) }

pub few_more : (m : MapRegisters) (e : Entry) → HasRoom (e ∷ []) m → length (rows_of m) + 1 < 2 ^ 32
few_more m e room = let total = room.few in omega (arith, total)

-- ---- a change

pub stands_of : (blocks : List Block) (i : ℕ) (key : List ℕ) (j : ℕ) → i < length blocks → StandsAt row_key key (rows_at blocks i) j → StandsAt row_key key (rows_in_blocks blocks) (past (rows_in_blocks (take i blocks)) j)
stands_of [] i key j inside h = absurd (omega (arith, inside))
stands_of (b ∷ blocks) i key j inside h =
    let all = b ∷ blocks in
    let was = get_or all i b in
    let here : was ≡ get_or all i was = get_or_default all i b was inside in
    stands_in_all all i was was inside here key j (stands_here all i was was inside here refl key j h)

pub belongs_of : (blocks : List Block) (i : ℕ) (key : List ℕ) (j : ℕ) → are_parted blocks ≡ true → are_whole blocks ≡ true → i < length blocks → i ≡ block_at blocks key → BelongsAt row_key key (rows_at blocks i) j → BelongsAt row_key key (rows_in_blocks blocks) (past (rows_in_blocks (take i blocks)) j)
belongs_of [] i key j p w inside is h = absurd (omega (arith, inside))
belongs_of (b ∷ blocks) i key j p w inside is h =
    let all = b ∷ blocks in
    let was = get_or all i b in
    let here : was ≡ get_or all i was = get_or_default all i b was inside in
    belongs_in_all all i was was inside here key j p w is (belongs_here all i was was inside here refl key j h)

pub short_of : (e : Entry) (value : List ℕ) → Fits e → e.value ≡ Some value → is_short (record { key = e.key; value = value }) ≡ true
short_of e value fits is =
    let low : length value < 2 ^ 32 = subst (λ (o : Option (List ℕ)). IfSome o (λ v. length v < 2 ^ 32)) is fits.value in
    both (nat_lt (length e.key.0) (2 ^ 32)) (nat_lt (length value) (2 ^ 32)) (lt-ltb (length e.key.0) (2 ^ 32) fits.key) (lt-ltb (length value) (2 ^ 32) low)

pub size_covers : (rows : List Row) (size less : ℕ) (i : ℕ) (row : Row) → size ≡ sum_by row_size rows → i < length rows → row ≡ get_or rows i row → less ≡ row_size row → less ≤ size
size_covers rows size less i row sized inside is less_is =
    let same : row_size row ≡ row_size (get_or rows i row) = ap row_size is in
    omega (arith, sized, less_is, same, get_or-le-sum_by row_size rows i row inside)
