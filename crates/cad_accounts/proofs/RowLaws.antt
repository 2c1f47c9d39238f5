-- What rows hold at a key, and their lengths, around one of them.
use Rattle.std.proofs.Common.{◌≡◌, ℕ, Bool, true, false, cond, List, [], ◌∷◌, ◌++◌, Some, None, refl, sym, ap, ◌∙◌}
use Rattle.cad_accounts.specs.declared.row.Row.{Row}
use Rattle.cad_accounts.specs.Registers.{same_key, at}
use Rattle.cad_accounts.specs.Code.Rows.{is_short, are_short}
use Rattle.cad_accounts.specs.Code.Places.{AllBefore, AllBehind}
use Rattle.cad_accounts.specs.KeyOrder.{row_key}
use Rattle.cad_accounts.proofs.Keys.{same_is, is_same, before_differs, behind_differs}
use Rattle.cad_accounts.proofs.Order.{both_left, both_right, both}

pub none_behind : (back : List Row) (key : List ℕ) → AllBehind row_key key back → at back key ≡ None
none_behind [] key h = refl
none_behind (r ∷ back) key h = rw (before_differs key r.key.0 h.0) (none_behind back key h.1)

pub none_at : (front back : List Row) (key : List ℕ) → AllBefore row_key front key → AllBehind row_key key back → at (front ++ back) key ≡ None
none_at [] back key before behind = none_behind back key behind
none_at (r ∷ front) back key before behind = rw (behind_differs key r.key.0 before.0) (none_at front back key before.1 behind)

-- a test of another key goes first or second
swapped : {A : Type 0} (s t : Bool) (x y z : A) → (s ≡ true → t ≡ true → ⊥) → cond s x (cond t y z) ≡ cond t y (cond s x z)
swapped true true x y z h = absurd (h refl refl)
swapped true false x y z h = refl
swapped false t x y z h = refl

pub at_with : (front : List Row) (r : Row) (back : List Row) (key : List ℕ) → AllBefore row_key front r.key.0 → at (front ++ r ∷ back) key ≡ cond (same_key key r.key.0) (Some r.value) (at (front ++ back) key)
at_with [] r back key h = refl
at_with (f ∷ front) r back key h =
    let both_ways : same_key key f.key.0 ≡ true → same_key key r.key.0 ≡ true → ⊥ = λ s t.
    let same : f.key.0 ≡ r.key.0 = sym (same_is key f.key.0 s) ∙ same_is key r.key.0 t in
    let differ = before_differs f.key.0 r.key.0 h.0 in
    let wrong : false ≡ true = sym differ ∙ is_same f.key.0 r.key.0 same in
    cc in
    ap (λ o. cond (same_key key f.key.0) (Some f.value) o) (at_with front r back key h.1)
    ∙ swapped (same_key key f.key.0) (same_key key r.key.0) (Some f.value) (Some r.value) (at (front ++ back) key) both_ways

-- ---- lengths

pub short_with : (front : List Row) (r : Row) (back : List Row) → are_short (front ++ back) ≡ true → is_short r ≡ true → are_short (front ++ r ∷ back) ≡ true
short_with [] r back e s = both (is_short r) (are_short back) s e
short_with (f ∷ front) r back e s =
    both (is_short f) (are_short (front ++ r ∷ back)) (both_left (is_short f) (are_short (front ++ back)) e)
    (short_with front r back (both_right (is_short f) (are_short (front ++ back)) e) s)

pub short_without : (front : List Row) (r : Row) (back : List Row) → are_short (front ++ r ∷ back) ≡ true → are_short (front ++ back) ≡ true
short_without [] r back e = both_right (is_short r) (are_short back) e
short_without (f ∷ front) r back e =
    both (is_short f) (are_short (front ++ back)) (both_left (is_short f) (are_short (front ++ r ∷ back)) e)
    (short_without front r back (both_right (is_short f) (are_short (front ++ r ∷ back)) e))
