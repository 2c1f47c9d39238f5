-- The first and the last places of a row.
use Rattle.std.proofs.Common.{◌≡◌, ◌<◌, ◌≤◌, ℕ, zero, suc, ◌+◌, ◌-◌, List, [], ◌∷◌, ◌++◌, length, take, drop, false, refl, sym, ap, ◌∙◌, arith}
use Rattle.cad_world.specs.Rows as r
use Rattle.cad_rows.specs.Views.{PlaceView, vacant, taken, before, pure_row, pure_place}
use Rattle.cad_rows.specs.declared.tree.Place.{Place}

front_later : (n : ℕ) (v : PlaceView) (row : r.Row) → r.front (suc n) (before v row) ≡ before v (r.front n row)
front_later n vacant row = refl
front_later n (taken l t) row = refl

back_later : (n : ℕ) (v : PlaceView) (row : r.Row) → r.back (suc n) (before v row) ≡ r.back n row
back_later n vacant row = refl
back_later n (taken l t) row = refl

-- the last place, behind the first n
front_last : (n : ℕ) (ps : List Place) (p : Place) → n ≤ length ps → r.front n (pure_row (ps ++ p ∷ [])) ≡ r.front n (pure_row ps)
front_last zero ps p h = refl
front_last (suc n) [] p h = absurd (omega (arith, h))
front_last (suc n) (q ∷ ps) p h =
    front_later n (pure_place q) (pure_row (ps ++ p ∷ [])) ∙ ap (before (pure_place q)) (front_last n ps p (omega (arith, h))) ∙ sym (front_later n (pure_place q) (pure_row ps))

pub front_turn : (n : ℕ) (was ps : List Place) (p : Place) → was ≡ ps ++ p ∷ [] → n < length was → n ≤ length ps → r.front n (pure_row ps) ≡ r.front n (pure_row was)
front_turn n was ps p e h k = sym (front_last n ps p k) ∙ ap (λ x. r.front n (pure_row x)) (sym e)

pub front_all : (n : ℕ) (ps : List Place) → length ps ≤ n → r.front n (pure_row ps) ≡ pure_row ps
front_all zero [] h = refl
front_all (suc n) [] h = refl
front_all zero (q ∷ ps) h = absurd (omega (arith, h))
front_all (suc n) (q ∷ ps) h = front_later n (pure_place q) (pure_row ps) ∙ ap (before (pure_place q)) (front_all n ps (omega (arith, h)))

back_stop : (n : ℕ) → r.back n r.stop ≡ r.stop
back_stop zero = refl
back_stop (suc n) = refl

pub back_beyond : (n : ℕ) (ps : List Place) → length ps ≤ n → r.owns (r.back n (pure_row ps)) ≡ false
back_beyond n [] h = ap r.owns (back_stop n)
back_beyond zero (q ∷ ps) h = absurd (omega (arith, h))
back_beyond (suc n) (q ∷ ps) h = ap r.owns (back_later n (pure_place q) (pure_row ps)) ∙ back_beyond n ps (omega (arith, h))

pub back_turn : (n c d : ℕ) (ps : List Place) → d ≡ c + 1 → c < n → 0 < length ps → r.back (n - d) (pure_row (drop 1 ps)) ≡ r.back (n - c) (pure_row ps)
back_turn n c d [] e h some = absurd (omega (arith, some))
back_turn n c d (q ∷ ps) e h some = sym (back_later (n - d) (pure_place q) (pure_row ps)) ∙ (let f : suc (n - d) ≡ n - c = omega (arith, h, e) in ap (λ k. r.back k (pure_row (q ∷ ps))) f)

pub back_none : (n m : ℕ) (ps was : List Place) → length ps ≡ 0 → r.back n (pure_row ps) ≡ r.back m (pure_row was) → pure_row ps ≡ r.back m (pure_row was)
back_none n m [] was none e = sym (back_stop n) ∙ e
back_none n m (q ∷ ps) was none e = absurd (omega (arith, none))

take_all : (ps : List Place) → take (length ps) ps ≡ ps
take_all [] = refl
take_all (q ∷ ps) = ap (λ xs. q ∷ xs) (take_all ps)

-- the places from an index on
pub rest_taken : (n : ℕ) (ps : List Place) → pure_row (take (length ps - n) (drop n ps)) ≡ r.back n (pure_row ps)
rest_taken zero ps = (let e : length ps - 0 ≡ length ps = omega arith in ap (λ k. pure_row (take k ps)) e) ∙ ap pure_row (take_all ps)
rest_taken (suc n) [] = let e : length {A = Place} [] - suc n ≡ 0 = omega arith in ap (λ k. pure_row (take k [])) e
rest_taken (suc n) (q ∷ ps) = (let e : length (q ∷ ps) - suc n ≡ length ps - n = omega arith in ap (λ k. pure_row (take k (drop n ps))) e) ∙ rest_taken n ps ∙ sym (back_later n (pure_place q) (pure_row ps))
