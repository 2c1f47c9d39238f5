-- Which places a row has.
use Rattle.std.proofs.Common.{◌≡◌, ◌≤◌, ◌<◌, ℕ, zero, suc, Bool, true, false, refl, sym, ap, arith, true≢false, List, [], ◌∷◌, length, map}
use Rattle.std.specs.Prelude.{pos}
use Rattle.cad_syntax.specs.declared.kind.Kind.{Kind}
use Rattle.cad_syntax.specs.Kinds.{signed, is_kept}
use Rattle.cad_world.specs.Locations.{element_slot, or_out_of_bounds}
use Rattle.cad_world.specs.State.{State, ok}
use Rattle.cad_world.specs.Rows.{Row, out, slot}
use Rattle.cad_rows.specs.Views.{PlaceView, vacant, taken, as_row, pure_row, pure_place}
use Rattle.cad_rows.specs.declared.tree.Place.{Place}

slot_out : (vs : List PlaceView) (i : ℕ) → length vs ≤ i → slot i (as_row vs) ≡ out
slot_out [] i h = refl
slot_out (vacant ∷ vs) zero h = absurd (omega (arith, h))
slot_out (taken l t ∷ vs) zero h = absurd (omega (arith, h))
slot_out (vacant ∷ vs) (suc i) h = slot_out vs i (omega (arith, h))
slot_out (taken l t ∷ vs) (suc i) h = slot_out vs i (omega (arith, h))

counted : (qs : List Place) → length (map pure_place qs) ≡ length qs
counted [] = refl
counted (q ∷ qs) = ap suc (counted qs)

place_out : (ps : List Place) (i : ℕ) → length ps ≤ i → slot i (pure_row ps) ≡ out
place_out ps i h = slot_out (map pure_place ps) i (omega (arith, h, counted ps))

-- a number below 0 is the index of no place
pub below_all : (kind : Kind) (negative : Bool) (magnitude : ℕ) (r : Row) → is_kept kind negative magnitude ≡ true → negative ≡ true → element_slot (signed negative magnitude) r ≡ out
below_all kind true zero r kept h = absurd (true≢false (sym kept))
below_all kind true (suc m) r kept h = refl
below_all kind false m r kept h = absurd (true≢false (sym h))

-- nor is one beyond the last
pub beyond_all : (negative : Bool) (magnitude : ℕ) (ps : List Place) → negative ≡ false → length ps ≤ magnitude → element_slot (signed negative magnitude) (pure_row ps) ≡ out
beyond_all true m ps e h = absurd (true≢false e)
beyond_all false m ps e h = place_out ps m h

pub index_of : (negative : Bool) (magnitude : ℕ) → negative ≡ false → signed negative magnitude ≡ pos magnitude
index_of negative magnitude e = ap (λ b. signed b magnitude) e

-- a place that is there
pub in_bounds : (ps : List Place) (i : ℕ) (s : State) → i < length ps → or_out_of_bounds (slot i (pure_row ps)) s ≡ ok (slot i (pure_row ps)) s
in_bounds ps i s h = go (map pure_place ps) i (omega (arith, h, counted ps))
  where
    go : (vs : List PlaceView) (j : ℕ) → j < length vs → or_out_of_bounds (slot j (as_row vs)) s ≡ ok (slot j (as_row vs)) s
    go [] j k = absurd (omega (arith, k))
    go (vacant ∷ vs) zero k = refl
    go (taken l t ∷ vs) zero k = refl
    go (vacant ∷ vs) (suc j) k = go vs j (omega (arith, k))
    go (taken l t ∷ vs) (suc j) k = go vs j (omega (arith, k))
