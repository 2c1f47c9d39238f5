-- Lists in byte order of their keys: what an insertion, a removal and a replacement make of them, and where a key is found.
use Rattle.std.proofs.Common.{◌≡◌, ℕ, zero, suc, ◌<◌, ◌≤◌, Bool, true, false, List, [], ◌∷◌, ◌++◌, length, take, drop, get_or, Result, Ok, Err, Ordering, refl, sym, ap, subst, ◌∙◌, arith, add-one}
use Rattle.std.specs.Prelude.{◌&&◌}
use Rattle.std.specs.List.{insert, remove}
use Rattle.std.specs.List.Sorted.{IsSearchInRange, IsBinarySearchResult, IsSortedBy}
use Rattle.std.specs.Ordering.{nat_cmp, is_lt}
use Rattle.std.specs.declared.cmp.Ordering.TheVariants.{Less, Equal, Greater}
use Rattle.std.specs.Cmp.Lexicographic.{slice_cmp}
use Rattle.std.proofs.lemmas.Cmp.{nat_list_cmp_total}
use Rattle.std.proofs.lemmas.List.Sorted.{searchable_from_sorted}
use Rattle.std.proofs.lemmas.List.{take-append-drop, set_split, get_or_default}
use Rattle.std.proofs.Math.Seq.{drop-cons, take-length, drop-length}
use Rattle.std.proofs.Math.ListN.{set}
use Rattle.cad_accounts.specs.Code.Places.{AllBefore, AllBehind, StandsAt, BelongsAt, IsPlace}
use Rattle.cad_accounts.specs.KeyOrder.{before, rise}
use Rattle.cad_accounts.proofs.Keys.{passes, not_back, equal_is, greater_is}

pub both_left : (a b : Bool) → (a && b) ≡ true → a ≡ true
both_left true b e = refl
both_left false b e = absurd cc

pub both_right : (a b : Bool) → (a && b) ≡ true → b ≡ true
both_right true b e = e
both_right false b e = absurd cc

pub both : (a b : Bool) → a ≡ true → b ≡ true → (a && b) ≡ true
both a b e f = λ i. e i && f i

module _ {X : Type 0} (name : X → List ℕ) where
  pub tail_rises : (x : X) (xs : List X) → rise name (x ∷ xs) ≡ true → rise name xs ≡ true
  tail_rises x [] e = refl
  tail_rises x (y ∷ xs) e = both_right (before (name x) (name y)) (rise name (y ∷ xs)) e

  pub behind_all : (a b : List ℕ) (xs : List X) → before a b ≡ true → AllBehind name b xs → AllBehind name a xs
  behind_all a b [] e h = tt
  behind_all a b (x ∷ xs) e h = (passes a b (name x) e h.0, behind_all a b xs e h.1)

  pub first_before : (x : X) (xs : List X) → rise name (x ∷ xs) ≡ true → AllBehind name (name x) xs
  first_before x [] e = tt
  first_before x (y ∷ xs) e =
      let here = both_left (before (name x) (name y)) (rise name (y ∷ xs)) e in
      let rest = first_before y xs (both_right (before (name x) (name y)) (rise name (y ∷ xs)) e) in
      (here, behind_all (name x) (name y) xs here rest)

  pub join : (x : X) (xs : List X) → AllBehind name (name x) xs → rise name xs ≡ true → rise name (x ∷ xs) ≡ true
  join x [] h e = refl
  join x (y ∷ xs) h e = both (before (name x) (name y)) (rise name (y ∷ xs)) h.0 e

  behind_with : (key : List ℕ) (front : List X) (x : X) (back : List X) → AllBehind name key (front ++ back) → before key (name x) ≡ true → AllBehind name key (front ++ x ∷ back)
  behind_with key [] x back h e = (e, h)
  behind_with key (f ∷ front) x back h e = (h.0, behind_with key front x back h.1 e)

  behind_without : (key : List ℕ) (front : List X) (x : X) (back : List X) → AllBehind name key (front ++ x ∷ back) → (before key (name x) ≡ true) × AllBehind name key (front ++ back)
  behind_without key [] x back h = (h.0, h.1)
  behind_without key (f ∷ front) x back h =
      let rest = behind_without key front x back h.1 in
      (rest.0, (h.0, rest.1))

  pub rises_with : (front : List X) (x : X) (back : List X) → rise name (front ++ back) ≡ true → AllBefore name front (name x) → AllBehind name (name x) back → rise name (front ++ x ∷ back) ≡ true
  rises_with [] x back e before behind = join x back behind e
  rises_with (f ∷ front) x back e before behind =
      let rest = rises_with front x back (tail_rises f (front ++ back) e) before.1 behind in
      join f (front ++ x ∷ back) (behind_with (name f) front x back (first_before f (front ++ back) e) before.0) rest

  pub rises_without : (front : List X) (x : X) (back : List X) → rise name (front ++ x ∷ back) ≡ true → rise name (front ++ back) ≡ true
  rises_without [] x back e = tail_rises x back e
  rises_without (f ∷ front) x back e =
      let rest = rises_without front x back (tail_rises f (front ++ x ∷ back) e) in
      join f (front ++ back) (behind_without (name f) front x back (first_before f (front ++ x ∷ back) e)).1 rest

  pub before_of : (front : List X) (x : X) (back : List X) → rise name (front ++ x ∷ back) ≡ true → AllBefore name front (name x)
  before_of [] x back e = tt
  before_of (f ∷ front) x back e =
      ((behind_without (name f) front x back (first_before f (front ++ x ∷ back) e)).0, before_of front x back (tail_rises f (front ++ x ∷ back) e))

  pub behind_of : (front : List X) (x : X) (back : List X) → rise name (front ++ x ∷ back) ≡ true → AllBehind name (name x) back
  behind_of [] x back e = first_before x back e
  behind_of (f ∷ front) x back e = behind_of front x back (tail_rises f (front ++ x ∷ back) e)

  pub behind_there : (key : List ℕ) (xs : List X) (i : ℕ) (d : X) → AllBehind name key xs → i < length xs → before key (name (get_or xs i d)) ≡ true
  behind_there key [] i d h lt = absurd (omega (arith, lt))
  behind_there key (x ∷ xs) zero d h lt = h.0
  behind_there key (x ∷ xs) (suc i) d h lt = behind_there key xs i d h.1 (omega (arith, lt))

  -- ---- the search

  neighbours : (xs : List X) (k : ℕ) (d : X) → rise name xs ≡ true → suc k < length xs → before (name (get_or xs k d)) (name (get_or xs (suc k) d)) ≡ true
  neighbours [] k d e h = absurd (omega arith)
  neighbours (x ∷ []) k d e h = absurd (omega arith)
  neighbours (x ∷ y ∷ xs) zero d e h = both_left (before (name x) (name y)) (rise name (y ∷ xs)) e
  neighbours (x ∷ y ∷ xs) (suc k) d e h = neighbours (y ∷ xs) k d (tail_rises x (y ∷ xs) e) (omega arith)

  are_sorted : (xs : List X) → rise name xs ≡ true → IsSortedBy (λ a b. is_lt (slice_cmp nat_cmp (name a) (name b))) xs
  are_sorted xs e k d low high =
      let inside : suc k < length xs = omega arith in
      rw add-one (not_back (name (get_or xs k d)) (name (get_or xs (suc k) d)) (neighbours xs k d e inside))

  before_so : (key : List ℕ) (xs : List X) (i : ℕ) → ((k : ℕ) (d : X) → k < i → k < length xs → slice_cmp nat_cmp (name (get_or xs k d)) key ≡ Less) → AllBefore name (take i xs) key
  before_so key xs zero h = tt
  before_so key [] (suc i) h = tt
  before_so key (x ∷ xs) (suc i) h =
      (ap is_lt (h 0 x (omega arith) (omega arith)), before_so key xs i (λ k d lt inside. h (suc k) d (omega arith) (omega arith)))

  behind_so : (key : List ℕ) (xs : List X) (i : ℕ) → ((k : ℕ) (d : X) → i ≤ k → k < length xs → slice_cmp nat_cmp (name (get_or xs k d)) key ≡ Greater) → AllBehind name key (drop i xs)
  behind_so key [] zero h = tt
  behind_so key [] (suc i) h = tt
  behind_so key (x ∷ xs) zero h =
      (greater_is (name x) key (h 0 x (omega arith) (omega arith)), behind_so key xs zero (λ k d le inside. h (suc k) d (omega arith) (omega arith)))
  behind_so key (x ∷ xs) (suc i) h = behind_so key xs i (λ k d le inside. h (suc k) d (omega arith) (omega arith))

  pub placed : (key : List ℕ) (xs : List X) (r : Result ℕ ℕ) → rise name xs ≡ true → IsSearchInRange r (length xs) → IsBinarySearchResult (λ x. slice_cmp nat_cmp (name x) key) xs r → IsPlace name key xs r
  placed key xs (Ok i) e inside h = record { within = inside; key_is = λ d. equal_is (name (get_or xs i d)) key (h d) }
  placed key xs (Err i) e inside h =
      let parts = h (searchable_from_sorted nat_list_cmp_total name xs key (are_sorted xs e)) in
      record {
        within = inside;
        in_front = before_so key xs i (λ k d lt in_xs. parts.0 k d (omega arith) lt);
        behind = behind_so key xs i (λ k d le in_xs. parts.1 k d le in_xs);
      }

  -- ---- the last one

  before_last : (key : List ℕ) (xs : List X) (i : ℕ) (d : X) → rise name xs ≡ true → suc i ≡ length xs → before (name (get_or xs i d)) key ≡ true → AllBefore name xs key
  before_last key [] i d e n h = tt
  before_last key (x ∷ []) zero d e n h = (h, tt)
  before_last key (x ∷ y ∷ xs) zero d e n h = absurd (omega (arith, n))
  before_last key (x ∷ []) (suc i) d e n h = absurd (omega (arith, n))
  before_last key (x ∷ y ∷ xs) (suc i) d e n h =
      let rest = before_last key (y ∷ xs) i d (tail_rises x (y ∷ xs) e) (omega (arith, n)) h in
      (passes (name x) (name y) key (both_left (before (name x) (name y)) (rise name (y ∷ xs)) e) rest.0, rest)

  pub behind_last : (xs : List X) (key now : List ℕ) (i : ℕ) (d : X) (o : Ordering) → rise name xs ≡ true → suc i ≡ length xs → now ≡ name (get_or xs i d) → o ≡ slice_cmp nat_cmp now key → o ≡ Less → BelongsAt name key xs (length xs)
  behind_last xs key now i d o e last is answer less =
      let here : before (name (get_or xs i d)) key ≡ true = ap (λ (k : List ℕ). before k key) (sym is) ∙ ap is_lt (sym answer ∙ less) in
      record {
        within = omega arith;
        in_front = subst (λ (l : List X). AllBefore name l key) (sym (take-length xs)) (before_last key xs i d e last here);
        behind = subst (AllBehind name key) (sym (drop-length xs)) tt;
      }

  pub stands_at : (xs : List X) (key now : List ℕ) (i : ℕ) (d : X) (o : Ordering) → i < length xs → now ≡ name (get_or xs i d) → o ≡ slice_cmp nat_cmp now key → o ≡ Equal → StandsAt name key xs i
  stands_at xs key now i d o within is answer same =
      record { within = within; key_is = λ f. ap name (get_or_default xs i f d within) ∙ sym is ∙ equal_is now key (sym answer ∙ same) }

  -- ---- what the calls' answers say

  pub stands_there : (key now : List ℕ) (xs items : List X) (i : ℕ) → now ≡ key → items ≡ xs → StandsAt name now items i → StandsAt name key xs i
  stands_there key now xs items i e f h = subst (λ (k : List ℕ). StandsAt name k xs i) e (subst (λ (l : List X). StandsAt name now l i) f h)

  pub belongs_there : (key now : List ℕ) (xs items : List X) (i : ℕ) → now ≡ key → items ≡ xs → BelongsAt name now items i → BelongsAt name key xs i
  belongs_there key now xs items i e f h = subst (λ (k : List ℕ). BelongsAt name k xs i) e (subst (λ (l : List X). BelongsAt name now l i) f h)

  -- ---- around a place

  pub parted : (xs : List X) (i : ℕ) (d : X) → i < length xs → xs ≡ take i xs ++ get_or xs i d ∷ drop (suc i) xs
  parted xs i d inside = sym (take-append-drop i xs) ∙ ap (λ (l : List X). take i xs ++ l) (drop-cons xs i d inside)

  pub parted_rises : (xs : List X) (i : ℕ) (d : X) → i < length xs → rise name xs ≡ true → rise name (take i xs ++ get_or xs i d ∷ drop (suc i) xs) ≡ true
  parted_rises xs i d inside e = ap (rise name) (sym (parted xs i d inside)) ∙ e

  pub insert_rises : (xs : List X) (i : ℕ) (x : X) → rise name xs ≡ true → BelongsAt name (name x) xs i → rise name (insert xs i x) ≡ true
  insert_rises xs i x e h = rises_with (take i xs) x (drop i xs) (ap (rise name) (take-append-drop i xs) ∙ e) h.in_front h.behind

  pub remove_rises : (xs : List X) (i : ℕ) (d : X) → rise name xs ≡ true → i < length xs → rise name (remove xs i) ≡ true
  remove_rises xs i d e inside = rises_without (take i xs) (get_or xs i d) (drop (suc i) xs) (parted_rises xs i d inside e)

  pub in_front_of : (key : List ℕ) (xs : List X) (i : ℕ) (d : X) → rise name xs ≡ true → StandsAt name key xs i → AllBefore name (take i xs) key
  in_front_of key xs i d e h = subst (AllBefore name (take i xs)) (h.key_is d) (before_of (take i xs) (get_or xs i d) (drop (suc i) xs) (parted_rises xs i d h.within e))

  pub behind_it : (key : List ℕ) (xs : List X) (i : ℕ) (d : X) → rise name xs ≡ true → StandsAt name key xs i → AllBehind name key (drop (suc i) xs)
  behind_it key xs i d e h = subst (λ (k : List ℕ). AllBehind name k (drop (suc i) xs)) (h.key_is d) (behind_of (take i xs) (get_or xs i d) (drop (suc i) xs) (parted_rises xs i d h.within e))

  pub set_rises : (xs : List X) (i : ℕ) (x : X) → rise name xs ≡ true → StandsAt name (name x) xs i → rise name (set xs i x) ≡ true
  set_rises xs i x e h =
      let rises = parted_rises xs i x h.within e in
      ap (rise name) (set_split xs i x h.within)
      ∙ rises_with (take i xs) x (drop (suc i) xs) (rises_without (take i xs) (get_or xs i x) (drop (suc i) xs) rises) (in_front_of (name x) xs i x e h) (behind_it (name x) xs i x e h)

  -- ---- a part of them

  rise_left : (xs ys : List X) → rise name (xs ++ ys) ≡ true → rise name xs ≡ true
  rise_left [] ys e = refl
  rise_left (x ∷ []) ys e = refl
  rise_left (x ∷ y ∷ xs) ys e =
      both (before (name x) (name y)) (rise name (y ∷ xs)) (both_left (before (name x) (name y)) (rise name ((y ∷ xs) ++ ys)) e)
      (rise_left (y ∷ xs) ys (both_right (before (name x) (name y)) (rise name ((y ∷ xs) ++ ys)) e))

  rise_right : (xs ys : List X) → rise name (xs ++ ys) ≡ true → rise name ys ≡ true
  rise_right [] ys e = e
  rise_right (x ∷ xs) ys e = rise_right xs ys (tail_rises x (xs ++ ys) e)

  pub take_rises : (i : ℕ) (xs : List X) → rise name xs ≡ true → rise name (take i xs) ≡ true
  take_rises i xs e = rise_left (take i xs) (drop i xs) (ap (rise name) (take-append-drop i xs) ∙ e)

  pub drop_rises : (i : ℕ) (xs : List X) → rise name xs ≡ true → rise name (drop i xs) ≡ true
  drop_rises i xs e = rise_right (take i xs) (drop i xs) (ap (rise name) (take-append-drop i xs) ∙ e)
