-- A list that stands between two others: what a change in it makes of all.
use Rattle.std.proofs.Common.{◌≡◌, ℕ, zero, suc, ◌+◌, ◌<◌, ◌≤◌, true, List, [], ◌∷◌, ◌++◌, length, take, drop, get_or, refl, sym, ap, subst, ◌∙◌, arith}
use Rattle.std.specs.List.{insert, remove}
use Rattle.std.proofs.Math.ListN.{set}
use Rattle.std.proofs.lemmas.List.{length-append}
use Rattle.cad_accounts.specs.Code.Places.{past, AllBefore, AllBehind, StandsAt, BelongsAt}

module _ {X : Type 0} where
  take_front : (xs back : List X) (j : ℕ) → j ≤ length xs → take j (xs ++ back) ≡ take j xs
  take_front xs back zero h = refl
  take_front [] back (suc j) h = absurd (omega (arith, h))
  take_front (x ∷ xs) back (suc j) h = ap (λ (l : List X). x ∷ l) (take_front xs back j (omega (arith, h)))

  drop_front : (xs back : List X) (j : ℕ) → j ≤ length xs → drop j (xs ++ back) ≡ drop j xs ++ back
  drop_front [] back zero h = refl
  drop_front (x ∷ xs) back zero h = refl
  drop_front [] back (suc j) h = absurd (omega (arith, h))
  drop_front (x ∷ xs) back (suc j) h = drop_front xs back j (omega (arith, h))

  pub take_middle : (front xs back : List X) (j : ℕ) → j ≤ length xs → take (past front j) (front ++ (xs ++ back)) ≡ front ++ take j xs
  take_middle [] xs back j h = take_front xs back j h
  take_middle (f ∷ front) xs back j h = ap (λ (l : List X). f ∷ l) (take_middle front xs back j h)

  pub drop_middle : (front xs back : List X) (j : ℕ) → j ≤ length xs → drop (past front j) (front ++ (xs ++ back)) ≡ drop j xs ++ back
  drop_middle [] xs back j h = drop_front xs back j h
  drop_middle (f ∷ front) xs back j h = drop_middle front xs back j h

  insert_front : (xs back : List X) (j : ℕ) (x : X) → j ≤ length xs → insert (xs ++ back) j x ≡ insert xs j x ++ back
  insert_front [] back zero x h = refl
  insert_front (y ∷ xs) back zero x h = refl
  insert_front [] back (suc j) x h = absurd (omega (arith, h))
  insert_front (y ∷ xs) back (suc j) x h = ap (λ (l : List X). y ∷ l) (insert_front xs back j x (omega (arith, h)))

  pub insert_middle : (front xs back : List X) (j : ℕ) (x : X) → j ≤ length xs → insert (front ++ (xs ++ back)) (past front j) x ≡ front ++ (insert xs j x ++ back)
  insert_middle [] xs back j x h = insert_front xs back j x h
  insert_middle (f ∷ front) xs back j x h = ap (λ (l : List X). f ∷ l) (insert_middle front xs back j x h)

  remove_front : (xs back : List X) (j : ℕ) → j < length xs → remove (xs ++ back) j ≡ remove xs j ++ back
  remove_front [] back j h = absurd (omega (arith, h))
  remove_front (y ∷ xs) back zero h = refl
  remove_front (y ∷ xs) back (suc j) h = ap (λ (l : List X). y ∷ l) (remove_front xs back j (omega (arith, h)))

  pub remove_middle : (front xs back : List X) (j : ℕ) → j < length xs → remove (front ++ (xs ++ back)) (past front j) ≡ front ++ (remove xs j ++ back)
  remove_middle [] xs back j h = remove_front xs back j h
  remove_middle (f ∷ front) xs back j h = ap (λ (l : List X). f ∷ l) (remove_middle front xs back j h)

  set_front : (xs back : List X) (j : ℕ) (x : X) → j < length xs → set (xs ++ back) j x ≡ set xs j x ++ back
  set_front [] back j x h = absurd (omega (arith, h))
  set_front (y ∷ xs) back zero x h = refl
  set_front (y ∷ xs) back (suc j) x h = ap (λ (l : List X). y ∷ l) (set_front xs back j x (omega (arith, h)))

  pub set_middle : (front xs back : List X) (j : ℕ) (x : X) → j < length xs → set (front ++ (xs ++ back)) (past front j) x ≡ front ++ (set xs j x ++ back)
  set_middle [] xs back j x h = set_front xs back j x h
  set_middle (f ∷ front) xs back j x h = ap (λ (l : List X). f ∷ l) (set_middle front xs back j x h)

  get_front : (xs back : List X) (j : ℕ) (d : X) → j < length xs → get_or (xs ++ back) j d ≡ get_or xs j d
  get_front [] back j d h = absurd (omega (arith, h))
  get_front (y ∷ xs) back zero d h = refl
  get_front (y ∷ xs) back (suc j) d h = get_front xs back j d (omega (arith, h))

  pub get_middle : (front xs back : List X) (j : ℕ) (d : X) → j < length xs → get_or (front ++ (xs ++ back)) (past front j) d ≡ get_or xs j d
  get_middle [] xs back j d h = get_front xs back j d h
  get_middle (f ∷ front) xs back j d h = get_middle front xs back j d h

  pub past_length : (front : List X) (j : ℕ) → past front j ≡ length front + j
  past_length [] j = omega arith
  past_length (f ∷ front) j = omega (arith, past_length front j)

  pub inside_middle : (front xs back : List X) (j : ℕ) → j < length xs → past front j < length (front ++ (xs ++ back))
  inside_middle [] xs back j h = omega (arith, h, length-append xs back)
  inside_middle (f ∷ front) xs back j h = omega (arith, inside_middle front xs back j h)

  pub within_middle : (front xs back : List X) (j : ℕ) → j ≤ length xs → past front j ≤ length (front ++ (xs ++ back))
  within_middle [] xs back j h = omega (arith, h, length-append xs back)
  within_middle (f ∷ front) xs back j h = omega (arith, within_middle front xs back j h)

-- ---- places

module _ {X : Type 0} (name : X → List ℕ) where
  pub before_append : (xs ys : List X) (key : List ℕ) → AllBefore name xs key → AllBefore name ys key → AllBefore name (xs ++ ys) key
  before_append [] ys key a b = b
  before_append (x ∷ xs) ys key a b = (a.0, before_append xs ys key a.1 b)

  pub behind_append : (key : List ℕ) (xs ys : List X) → AllBehind name key xs → AllBehind name key ys → AllBehind name key (xs ++ ys)
  behind_append key [] ys a b = b
  behind_append key (x ∷ xs) ys a b = (a.0, behind_append key xs ys a.1 b)

  pub stands_middle : (key : List ℕ) (front xs back : List X) (j : ℕ) → StandsAt name key xs j → StandsAt name key (front ++ (xs ++ back)) (past front j)
  stands_middle key front xs back j h = record {
    within = inside_middle front xs back j h.within;
    key_is = λ d. ap name (get_middle front xs back j d h.within) ∙ h.key_is d;
  }

  pub belongs_middle : (key : List ℕ) (front xs back : List X) (j : ℕ) → AllBefore name front key → AllBehind name key back → BelongsAt name key xs j → BelongsAt name key (front ++ (xs ++ back)) (past front j)
  belongs_middle key front xs back j before behind h = record {
    within = within_middle front xs back j h.within;
    in_front = subst (λ (l : List X). AllBefore name l key) (sym (take_middle front xs back j h.within)) (before_append front (take j xs) key before h.in_front);
    behind = subst (λ (l : List X). AllBehind name key l) (sym (drop_middle front xs back j h.within)) (behind_append key (drop j xs) back h.behind behind);
  }
