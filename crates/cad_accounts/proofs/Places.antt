-- What a change at a place makes of the registers.
use Rattle.std.proofs.Common.{◌≡◌, ℕ, suc, ◌+◌, ◌-◌, ◌*◌, ◌^◌, ◌<◌, ◌≤◌, Bool, true, false, cond, List, [], ◌∷◌, ◌++◌, length, take, drop, get_or, Option, Some, None, refl, sym, ap, subst, ◌∙◌, arith}
use Rattle.std.specs.Prelude.{sum_by, map, nat_lt}
use Rattle.std.specs.List.{insert, remove, flat_map}
use Rattle.std.proofs.lemmas.List.{take-append-drop, set_split, length-append, length-set}
use Rattle.std.proofs.Math.ListN.{set}
use Rattle.std.proofs.lemmas.Bool.Decides.{nat_tests}
use Rattle.std.proofs.lemmas.List.Sums.{sum_by-cons, sum_by-insert, sum_by-remove, sum_by-set, get_or-le-sum_by}
use Rattle.std.proofs.lemmas.List.Edits.{length-insert, length-remove}
use Rattle.std.proofs.lemmas.List.Concat.{length-flat_map}
use Rattle.cad_wire.specs.Fields.{length_field, bytes_field}
use Rattle.cad_wire.specs.Body.{entry_field}
use Rattle.cad_accounts.specs.declared.row.Row.{Row}
use Rattle.cad_accounts.specs.Registers.{same_key, at, are_rising, changed, entry_of, size_of}
use Rattle.cad_accounts.specs.Code.Rows.{row_size, is_short, are_short}
use Rattle.cad_accounts.specs.Code.Places.{StandsAt, BelongsAt}
use Rattle.cad_accounts.specs.KeyOrder.{row_key}
use Rattle.cad_accounts.proofs.Keys.{same_is, is_same}
use Rattle.cad_accounts.proofs.Order.{both_left, both_right, parted, parted_rises, before_of, behind_of, in_front_of, insert_rises, remove_rises, set_rises}
use Rattle.cad_accounts.proofs.RowLaws.{none_at, at_with, short_with, short_without}

some_row : Row
some_row = record { key = record { 0 = [] }; value = [] }

-- ---- around a place

at_parted : (rows : List Row) (i : ℕ) (d : Row) (key : List ℕ) → i < length rows → are_rising rows ≡ true → at rows key ≡ cond (same_key key (get_or rows i d).key.0) (Some (get_or rows i d).value) (at (take i rows ++ drop (suc i) rows) key)
at_parted rows i d key inside e =
    ap (λ (l : List Row). at l key) (parted row_key rows i d inside)
    ∙ at_with (take i rows) (get_or rows i d) (drop (suc i) rows) key (before_of row_key (take i rows) (get_or rows i d) (drop (suc i) rows) (parted_rises row_key rows i d inside e))

pub found : (rows : List Row) (i : ℕ) (d : Row) (key : List ℕ) → are_rising rows ≡ true → StandsAt row_key key rows i → at rows key ≡ Some (get_or rows i d).value
found rows i d key e h =
    at_parted rows i d key h.within e
    ∙ ap (λ b. cond b (Some (get_or rows i d).value) (at (take i rows ++ drop (suc i) rows) key)) (is_same key (get_or rows i d).key.0 (sym (h.key_is d)))

pub absent : (rows : List Row) (i : ℕ) (key : List ℕ) → BelongsAt row_key key rows i → at rows key ≡ None
absent rows i key h = ap (λ (l : List Row). at l key) (sym (take-append-drop i rows)) ∙ none_at (take i rows) (drop i rows) key h.in_front h.behind

-- ---- an insertion

pub insert_short : (rows : List Row) (i : ℕ) (row : Row) → are_short rows ≡ true → is_short row ≡ true → are_short (insert rows i row) ≡ true
insert_short rows i row e s = short_with (take i rows) row (drop i rows) (ap are_short (take-append-drop i rows) ∙ e) s

pub insert_at : (rows : List Row) (i : ℕ) (row : Row) (key : List ℕ) → BelongsAt row_key row.key.0 rows i → at (insert rows i row) key ≡ changed row.key.0 (Some row.value) (at rows) key
insert_at rows i row key h =
    at_with (take i rows) row (drop i rows) key h.in_front
    ∙ ap (λ (l : List Row). cond (same_key key row.key.0) (Some row.value) (at l key)) (take-append-drop i rows)

-- ---- a removal

pub remove_short : (rows : List Row) (i : ℕ) → are_short rows ≡ true → i < length rows → are_short (remove rows i) ≡ true
remove_short rows i e inside = short_without (take i rows) (get_or rows i some_row) (drop (suc i) rows) (ap are_short (sym (parted row_key rows i some_row inside)) ∙ e)

gone : (b : Bool) (x y z : Option (List ℕ)) → x ≡ cond b y z → (b ≡ true → z ≡ None) → z ≡ cond b None x
gone true x y z e h = h refl
gone false x y z e h = sym e

pub remove_at : (rows : List Row) (i : ℕ) (key : List ℕ) (other : List ℕ) → are_rising rows ≡ true → StandsAt row_key key rows i → at (remove rows i) other ≡ changed key None (at rows) other
remove_at rows i key other e h =
    let row = get_or rows i some_row in
    let rises = parted_rises row_key rows i some_row h.within e in
    let key_is : row.key.0 ≡ key = h.key_is some_row in
    let none : same_key other row.key.0 ≡ true → at (remove rows i) other ≡ None = λ s.
    ap (at (remove rows i)) (same_is other row.key.0 s)
    ∙ none_at (take i rows) (drop (suc i) rows) row.key.0 (before_of row_key (take i rows) row (drop (suc i) rows) rises) (behind_of row_key (take i rows) row (drop (suc i) rows) rises) in
    gone (same_key other row.key.0) (at rows other) (Some row.value) (at (remove rows i) other) (at_parted rows i some_row other h.within e) none
    ∙ ap (λ (k : List ℕ). changed k None (at rows) other) key_is

-- nothing is there to remove
pub kept : (rows : List Row) (i : ℕ) (key : List ℕ) (other : List ℕ) → BelongsAt row_key key rows i → at rows other ≡ changed key None (at rows) other
kept rows i key other h =
    gone (same_key other key) (at rows other) (at rows other) (at rows other) (either (same_key other key) (at rows other)) (λ s. ap (at rows) (same_is other key s) ∙ absent rows i key h)
  where
    either : (b : Bool) (x : Option (List ℕ)) → x ≡ cond b x x
    either true x = refl
    either false x = refl

-- ---- a new value

pub set_short : (rows : List Row) (i : ℕ) (row : Row) → are_short rows ≡ true → i < length rows → is_short row ≡ true → are_short (set rows i row) ≡ true
set_short rows i row e inside s = ap are_short (set_split rows i row inside) ∙ short_with (take i rows) row (drop (suc i) rows) (remove_short rows i e inside) s

twice : (b : Bool) (x y z w : Option (List ℕ)) → w ≡ cond b y z → cond b x z ≡ cond b x w
twice true x y z w e = refl
twice false x y z w e = sym e

pub set_at : (rows : List Row) (i : ℕ) (row : Row) (key : List ℕ) → are_rising rows ≡ true → StandsAt row_key row.key.0 rows i → at (set rows i row) key ≡ changed row.key.0 (Some row.value) (at rows) key
set_at rows i row key e h =
    let old = get_or rows i some_row in
    let in_front = in_front_of row_key row.key.0 rows i some_row e h in
    let was = at_parted rows i some_row key h.within e ∙ ap (λ (k : List ℕ). cond (same_key key k) (Some old.value) (at (take i rows ++ drop (suc i) rows) key)) (h.key_is some_row) in
    ap (λ (l : List Row). at l key) (set_split rows i row h.within)
    ∙ at_with (take i rows) row (drop (suc i) rows) key in_front
    ∙ twice (same_key key row.key.0) (Some row.value) (Some old.value) (at (take i rows ++ drop (suc i) rows) key) (at rows key) was

-- ---- how many bytes

pub short_size : (row : Row) → is_short row ≡ true → row_size row ≤ 2 ^ 33 + 9
short_size row s =
    let a = both_left (nat_lt (length row.key.0) (2 ^ 32)) (nat_lt (length row.value) (2 ^ 32)) s in
    let b = both_right (nat_lt (length row.key.0) (2 ^ 32)) (nat_lt (length row.value) (2 ^ 32)) s in
    grind (arith, nat_tests)

pub size_bound : (rows : List Row) → are_short rows ≡ true → sum_by row_size rows ≤ length rows * (2 ^ 33 + 9)
size_bound [] e = omega arith
size_bound (r ∷ rows) e =
    let here = short_size r (both_left (is_short r) (are_short rows) e) in
    let rest = size_bound rows (both_right (is_short r) (are_short rows) e) in
    omega (arith, sum_by-cons row_size r rows)

-- ---- what the calls' answers say

pub found_value : (rows : List Row) (i : ℕ) (key : List ℕ) (row : Row) (bytes : List ℕ) → are_rising rows ≡ true → StandsAt row_key key rows i → row ≡ get_or rows i row → bytes ≡ row.value → Some bytes ≡ at rows key
found_value rows i key row bytes e h is value =
    ap (λ b. Some b) (value ∙ ap (λ (r : Row). r.value) is) ∙ sym (found rows i row key e h)

pub replaced : (old new : List Row) (i : ℕ) (row : Row) (value : Option (List ℕ)) (key : List ℕ) → are_rising old ≡ true → StandsAt row_key row.key.0 old i → new ≡ set old i row → value ≡ Some row.value → at new key ≡ changed row.key.0 value (at old) key
replaced old new i row value key e h is v =
    ap (λ (l : List Row). at l key) is ∙ set_at old i row key e h ∙ ap (λ o. changed row.key.0 o (at old) key) (sym v)

pub inserted : (old new : List Row) (i : ℕ) (row : Row) (value : Option (List ℕ)) (key : List ℕ) → BelongsAt row_key row.key.0 old i → new ≡ insert old i row → value ≡ Some row.value → at new key ≡ changed row.key.0 value (at old) key
inserted old new i row value key h is v =
    ap (λ (l : List Row). at l key) is ∙ insert_at old i row key h ∙ ap (λ o. changed row.key.0 o (at old) key) (sym v)

pub removed : (old new : List Row) (i : ℕ) (gone : List ℕ) (value : Option (List ℕ)) (key : List ℕ) → are_rising old ≡ true → StandsAt row_key gone old i → new ≡ remove old i → value ≡ None → at new key ≡ changed gone value (at old) key
removed old new i gone value key e h is v =
    ap (λ (l : List Row). at l key) is ∙ remove_at old i gone key e h ∙ ap (λ o. changed gone o (at old) key) (sym v)

pub unchanged : (old : List Row) (i : ℕ) (gone : List ℕ) (value : Option (List ℕ)) (key : List ℕ) → BelongsAt row_key gone old i → value ≡ None → at old key ≡ changed gone value (at old) key
unchanged old i gone value key h v = kept old i gone key h ∙ ap (λ o. changed gone o (at old) key) (sym v)

-- ---- what is kept of them

pub record IsKept (rows : List Row) (size : ℕ) : Type 0 where
  pub ascending : are_rising rows ≡ true
  pub short : are_short rows ≡ true
  pub few : length rows < 2 ^ 32
  pub sized : size ≡ sum_by row_size rows

pub kept_insert : (old new : List Row) (size i added : ℕ) (row : Row) → IsKept old size → length old + 1 < 2 ^ 32 → BelongsAt row_key row.key.0 old i → is_short row ≡ true → new ≡ insert old i row → added ≡ row_size row → IsKept new (size + added)
kept_insert old new size i added row k room h s is added_is =
    let kept : IsKept (insert old i row) (size + added) = record {
      ascending = insert_rises row_key old i row k.ascending h;
      short = insert_short old i row k.short s;
      few = omega (arith, length-insert old i row h.within);
      sized = omega (arith, sum_by-insert row_size old i row, k.sized);
    } in
    subst (λ (l : List Row). IsKept l (size + added)) (sym is) kept

pub kept_remove : (old new : List Row) (size i less : ℕ) (row : Row) → IsKept old size → i < length old → row ≡ get_or old i row → new ≡ remove old i → less ≡ row_size row → IsKept new (size - less)
kept_remove old new size i less row k inside row_is is less_is =
    let same : row_size row ≡ row_size (get_or old i row) = ap row_size row_is in
    let kept : IsKept (remove old i) (size - less) = record {
      ascending = remove_rises row_key old i some_row k.ascending inside;
      short = remove_short old i k.short inside;
      few = omega (arith, length-remove old i inside, k.few);
      sized = omega (arith, sum_by-remove row_size old i row inside, k.sized);
    } in
    subst (λ (l : List Row). IsKept l (size - less)) (sym is) kept

pub kept_set : (old : List Row) (size i less added : ℕ) (row was : Row) → IsKept old size → StandsAt row_key row.key.0 old i → is_short row ≡ true → was ≡ get_or old i was → less ≡ row_size was → added ≡ row_size row → IsKept (set old i row) ((size - less) + added)
kept_set old size i less added row was k h s was_is less_is added_is =
    let same : row_size was ≡ row_size (get_or old i was) = ap row_size was_is in
    let low : row_size (get_or old i was) ≤ sum_by row_size old = get_or-le-sum_by row_size old i was h.within in
    record {
      ascending = set_rises row_key old i row k.ascending h;
      short = set_short old i row k.short h.within s;
      few = rw length-set k.few;
      sized = omega (arith, sum_by-set row_size old i row was h.within, k.sized);
    }

pub size_fits : (rows : List Row) (size added : ℕ) (row : Row) → are_short rows ≡ true → length rows < 2 ^ 32 → size ≡ sum_by row_size rows → is_short row ≡ true → added ≡ row_size row → size + added < 2 ^ 128
size_fits rows size added row short few sized s is = omega (arith, size_bound rows short, short_size row s)

-- ---- the size of a record of them

entry_size : (row : Row) → length (entry_field (entry_of row)) ≡ row_size row
entry_size row =
    let key = length-append (length_field (length row.key.0)) row.key.0 in
    let value = length-append (length_field (length row.value)) row.value in
    let whole = length-append (bytes_field row.key.0) (1 ∷ bytes_field row.value) in
    omega (arith, key, value, whole)

entries_size : (rows : List Row) → sum_by (λ e. length (entry_field e)) (map entry_of rows) ≡ sum_by row_size rows
entries_size [] = refl
entries_size (r ∷ rows) =
    let here = entry_size r in
    let rest = entries_size rows in
    omega (arith, sum_by-cons (λ e. length (entry_field e)) (entry_of r) (map entry_of rows), sum_by-cons row_size r rows)

pub size_is : (rows : List Row) → size_of rows ≡ 15 + sum_by row_size rows
size_is rows =
    let all = length-append (length_field (length (map entry_of rows))) (flat_map entry_field (map entry_of rows)) in
    let fields = length-flat_map entry_field (map entry_of rows) in
    let sizes = entries_size rows in
    omega (arith, all, fields, sizes)
