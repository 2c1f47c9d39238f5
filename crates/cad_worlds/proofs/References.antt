-- Rows that are referred to, one by one.
use Rattle.std.proofs.Common.{◌≡◌, ◌≤◌, ◌<◌, ℕ, zero, suc, List, [], ◌∷◌, ◌++◌, length, drop, get_or, refl, sym, ap, ◌∙◌, arith, Bor}
use Rattle.std.proofs.lemmas.List.{length-map, drop-map, map-append}
use Rattle.cad_accounts.specs.declared.row.Row.{Row}
use Rattle.cad_worlds.proofs.Lists.{none_past}
use Rattle.cad_worlds.specs.RowLists.{rows_at}

as_many : (rows : List (Bor Row)) → length (rows_at rows) ≡ length rows
as_many rows = length-map rows (λ (r : Bor Row). r.now)

pub inside_at : (rows : List (Bor Row)) (i : ℕ) → i < length rows → i < length (rows_at rows)
inside_at rows i inside = omega (arith, inside, as_many rows)

pub outside_at : (rows : List (Bor Row)) (i : ℕ) → length rows ≤ i → length (rows_at rows) ≤ i
outside_at rows i outside = omega (arith, outside, as_many rows)

pub item_at : (rows : List (Bor Row)) (i : ℕ) (r : Bor Row) → r ≡ get_or rows i r → r.now ≡ get_or (rows_at rows) i r.now
item_at rows i r is = ap (λ (x : Bor Row). x.now) is ∙ read rows i r
  where
    read : (xs : List (Bor Row)) (k : ℕ) (d : Bor Row) → (get_or xs k d).now ≡ get_or (rows_at xs) k d.now
    read [] k d = refl
    read (x ∷ xs) zero d = refl
    read (x ∷ xs) (suc k) d = read xs k d

pub one_more : (rows : List (Bor Row)) (r : Bor Row) → rows_at (rows ++ r ∷ []) ≡ rows_at rows ++ r.now ∷ []
one_more rows r = map-append (λ (x : Bor Row). x.now) rows (r ∷ [])

pub left_at : (rows left : List (Bor Row)) (i : ℕ) → left ≡ drop i rows → rows_at left ≡ drop i (rows_at rows)
left_at rows left i is = ap rows_at is ∙ sym (drop-map (λ (r : Bor Row). r.now) i rows)

pub all_left : (rows : List (Bor Row)) → drop (length rows) (rows_at rows) ≡ []
all_left rows = none_past (rows_at rows) (length rows) (outside_at rows (length rows) (omega arith))
