-- Places of rows, by their lists.
use Rattle.std.proofs.Common.{◌≡◌, ℕ, zero, suc, ◌<◌, ◌≤◌, List, [], ◌∷◌, length, get_or, set, None, refl, sym, ap, ◌∙◌, arith}
use Rattle.cad_world.specs.Rows as r
use Rattle.cad_rows.specs.Views.{PlaceView, vacant, taken, before, pure_row, pure_place}
use Rattle.cad_rows.specs.Places.{slot_in}
use Rattle.cad_rows.specs.declared.tree.Place.{Place}
use Rattle.cad_evaluation.specs.Arguments.{argument, in_slot}

slot_first : (v : PlaceView) (row : r.Row) → r.slot 0 (before v row) ≡ slot_in v
slot_first vacant row = refl
slot_first (taken l t) row = refl

slot_later : (i : ℕ) (v : PlaceView) (row : r.Row) → r.slot (suc i) (before v row) ≡ r.slot i row
slot_later i vacant row = refl
slot_later i (taken l t) row = refl

slot_there : (i : ℕ) (ps : List Place) (p : Place) → i < length ps → p ≡ get_or ps i p → r.slot i (pure_row ps) ≡ slot_in (pure_place p)
slot_there i [] p inside e = absurd (omega (arith, inside))
slot_there zero (q ∷ ps) p inside e = slot_first (pure_place q) (pure_row ps) ∙ ap (λ x. slot_in (pure_place x)) (sym e)
slot_there (suc i) (q ∷ ps) p inside e = slot_later i (pure_place q) (pure_row ps) ∙ slot_there i ps p (omega (arith, inside)) e

slot_nowhere : (i : ℕ) (ps : List Place) → length ps ≤ i → r.slot i (pure_row ps) ≡ r.out
slot_nowhere i [] outside = refl
slot_nowhere zero (q ∷ ps) outside = absurd (omega (arith, outside))
slot_nowhere (suc i) (q ∷ ps) outside = slot_later i (pure_place q) (pure_row ps) ∙ slot_nowhere i ps (omega (arith, outside))

pub argument_there : (i : ℕ) (ps : List Place) (p : Place) → i < length ps → p ≡ get_or ps i p → in_slot (slot_in (pure_place p)) ≡ argument i (pure_row ps)
argument_there i ps p inside e = ap in_slot (sym (slot_there i ps p inside e))

pub argument_nowhere : (i : ℕ) (ps : List Place) → length ps ≤ i → argument i (pure_row ps) ≡ None
argument_nowhere i ps outside = ap in_slot (slot_nowhere i ps outside)

count_later : (v : PlaceView) (row : r.Row) → r.count_places (before v row) ≡ suc (r.count_places row)
count_later vacant row = refl
count_later (taken l t) row = refl

pub counted : (ps : List Place) → length ps ≡ r.count_places (pure_row ps)
counted [] = refl
counted (q ∷ ps) = ap suc (counted ps) ∙ sym (count_later (pure_place q) (pure_row ps))

pub first_stays : (ps : List Place) (p : Place) → argument 0 (pure_row (set ps 1 p)) ≡ argument 0 (pure_row ps)
first_stays [] p = refl
first_stays (q ∷ []) p = refl
first_stays (q ∷ x ∷ ps) p = ap in_slot (slot_first (pure_place q) (before (pure_place p) (pure_row ps)) ∙ sym (slot_first (pure_place q) (before (pure_place x) (pure_row ps))))
