-- The first argument, taken out of its row.
use Rattle.std.proofs.Common.{◌≡◌, ℕ, ◌<◌, ◌≤◌, List, [], ◌∷◌, length, get_or, None, refl, sym, ap, ◌∙◌, arith}
use Rattle.cad_evaluation.specs.Arguments.{argument, in_slot}
use Rattle.cad_rows.specs.Places.{slot_in}
use Rattle.cad_rows.specs.Views.{PlaceView, vacant, taken, before, pure_row, pure_place}
use Rattle.cad_rows.specs.declared.tree.Place.{Place}
use Rattle.cad_world.specs.Rows.{Row, slot}

slot_first : (v : PlaceView) (row : Row) → slot 0 (before v row) ≡ slot_in v
slot_first vacant row = refl
slot_first (taken l t) row = refl

pub first_there : (ps : List Place) (p : Place) → 0 < length ps → p ≡ get_or ps 0 p → in_slot (slot_in (pure_place p)) ≡ argument 0 (pure_row ps)
first_there [] p inside e = absurd (omega (arith, inside))
first_there (q ∷ ps) p inside e = ap in_slot (ap (λ x. slot_in (pure_place x)) e ∙ sym (slot_first (pure_place q) (pure_row ps)))

pub first_nowhere : (ps : List Place) → length ps ≤ 0 → argument 0 (pure_row ps) ≡ None
first_nowhere [] outside = refl
first_nowhere (q ∷ ps) outside = absurd (omega (arith, outside))
