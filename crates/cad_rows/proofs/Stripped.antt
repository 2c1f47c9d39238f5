-- Rows whose labels are taken away place by place.
use Rattle.std.proofs.Common.{◌≡◌, ℕ, zero, suc, ◌<◌, List, [], ◌∷◌, length, get_or, set, refl, sym, ap, subst, ◌∙◌, arith, inl, inr}
use Rattle.std.proofs.lemmas.Bool.{cases_lt}
use Rattle.std.proofs.lemmas.List.{get_or-set_same, get_or-set_other}
use Rattle.cad_world.specs.Rows as r
use Rattle.cad_rows.specs.Views.{PlaceView, vacant, taken, before, pure_row, pure_place}
use Rattle.cad_rows.specs.Places.{bare_place}
use Rattle.cad_rows.specs.declared.tree.Place.{Place}

-- the first places are bare by now
abbrev pub AreBare : ℕ → List Place → List Place → Type 0
AreBare n now was = (k : ℕ) (d : Place) → k < n → pure_place (get_or now k d) ≡ bare_place (pure_place (get_or was k d))

pub bare_before : (v : PlaceView) (row : r.Row) → r.bare (before v row) ≡ before (bare_place v) (r.bare row)
bare_before vacant row = refl
bare_before (taken l t) row = refl

pub bare_all : (now was : List Place) → length now ≡ length was → AreBare (length was) now was → pure_row now ≡ r.bare (pure_row was)
bare_all [] [] e h = refl
bare_all [] (q ∷ was) e h = absurd (omega (arith, e))
bare_all (p ∷ now) [] e h = absurd (omega (arith, e))
bare_all (p ∷ now) (q ∷ was) e h =
    ap (λ v. before v (pure_row now)) (h 0 q (omega arith))
    ∙ ap (before (bare_place (pure_place q))) (bare_all now was (omega (arith, e)) (λ k d lt. h (suc k) d (omega (arith, lt))))
    ∙ sym (bare_before (pure_place q) (pure_row was))

at_turn : (ps : List Place) (i : ℕ) (p d : Place) → i < length ps → p ≡ get_or ps i p → get_or ps i d ≡ p
at_turn [] i p d lt is = absurd (omega (arith, lt))
at_turn (q ∷ ps) zero p d lt is = sym is
at_turn (q ∷ ps) (suc i) p d lt is = at_turn ps i p d (omega (arith, lt)) is

-- one place more; it was as it had been
pub bare_turn : (i : ℕ) (now was : List Place) (p old : Place) → i < length now → AreBare i now was → old ≡ get_or now i old → ((d : Place) → get_or now i d ≡ get_or was i d) → pure_place p ≡ bare_place (pure_place old) → AreBare (suc i) (set now i p) was
bare_turn i now was p old lt h is same e k d below =
    elim (cases_lt k i) [
      | inl less ↦ ap pure_place (get_or-set_other now i k p d (λ same_index. omega (arith, less, same_index))) ∙ h k d less
      | inr le ↦
          subst (λ j. pure_place (get_or (set now i p) j d) ≡ bare_place (pure_place (get_or was j d))) (omega (arith, le, below))
          (ap pure_place (get_or-set_same now i p d lt) ∙ e ∙ ap (λ x. bare_place (pure_place x)) (sym (at_turn now i old d lt is) ∙ same d))
    ]
