-- Items that come to be as they are kept, one after another.
use Rattle.std.proofs.Common.{◌≡◌, ℕ, zero, suc, ◌+◌, ◌≤◌, ◌<◌, List, [], ◌∷◌, length, get_or, set, map, refl, sym, ap, subst, ◌∙◌, arith, inl, inr}
use Rattle.std.proofs.lemmas.Bool.{cases_lt}
use Rattle.std.proofs.lemmas.List.{get_or-set_same, get_or-set_other, length-set}

-- the first n items are as they are kept by now, and the others as they were
pub record KeptSo {X B : Type 0} (view : X → B) (kept : B → B) (n : ℕ) (now was : List X) : Type 0 where
  pub same : length now ≡ length was
  pub left : (k : ℕ) (d : X) → n ≤ k → get_or now k d ≡ get_or was k d
  pub done : (k : ℕ) (d : X) → k < n → view (get_or now k d) ≡ kept (view (get_or was k d))

pub none_kept : {X B : Type 0} (view : X → B) (kept : B → B) (xs : List X) → KeptSo view kept 0 xs xs
none_kept view kept xs = record { same = refl; left = λ k d h. refl; done = λ k d below. absurd (omega (arith, below)) }

at_turn : {X : Type 0} (ps : List X) (i : ℕ) (p d : X) → i < length ps → p ≡ get_or ps i p → get_or ps i d ≡ p
at_turn [] i p d lt is = absurd (omega (arith, lt))
at_turn (q ∷ ps) zero p d lt is = sym is
at_turn (q ∷ ps) (suc i) p d lt is = at_turn ps i p d (omega (arith, lt)) is

-- one item more
pub one_kept : {X B : Type 0} (view : X → B) (kept : B → B) (i j : ℕ) (now was : List X) (p old : X) → j ≡ i + 1 → i < length now → KeptSo view kept i now was
    → old ≡ get_or now i old → view p ≡ kept (view old) → KeptSo view kept j (set now i p) was
one_kept view kept i j now was p old next lt so is e = record {
  same = length-set now i p ∙ so.same;
  left = λ k d after. get_or-set_other now i k p d (λ same_index. omega (arith, next, after, same_index)) ∙ so.left k d (omega (arith, next, after));
  done = λ k d below. elim (cases_lt k i) [
    | inl less ↦ ap view (get_or-set_other now i k p d (λ same_index. omega (arith, less, same_index))) ∙ so.done k d less
    | inr le ↦
        subst (λ m. view (get_or (set now i p) m d) ≡ kept (view (get_or was m d))) (omega (arith, le, below, next))
        (ap view (get_or-set_same now i p d lt) ∙ e ∙ ap (λ x. kept (view x)) (sym (at_turn now i old d lt is) ∙ so.left i d (omega arith)))
  ];
}

mapped : {X B : Type 0} (view : X → B) (kept : B → B) (now was : List X) → length now ≡ length was
    → ((k : ℕ) (d : X) → k < length was → view (get_or now k d) ≡ kept (view (get_or was k d))) → map view now ≡ map kept (map view was)
mapped view kept [] [] e h = refl
mapped view kept [] (q ∷ was) e h = absurd (omega (arith, e))
mapped view kept (p ∷ now) [] e h = absurd (omega (arith, e))
mapped view kept (p ∷ now) (q ∷ was) e h =
    ap (λ v. v ∷ map view now) (h 0 q (omega arith))
    ∙ ap (λ vs. kept (view q) ∷ vs) (mapped view kept now was (omega (arith, e)) (λ k d lt. h (suc k) d (omega (arith, lt))))

-- all of them are
pub all_kept : {X B : Type 0} (view : X → B) (kept : B → B) (n : ℕ) (now was : List X) → length was ≤ n → KeptSo view kept n now was
    → map view now ≡ map kept (map view was)
all_kept view kept n now was all so = mapped view kept now was so.same (λ k d lt. so.done k d (omega (arith, lt, all)))
