-- Rows that may stand in accounts, place by place, and how high they may be.
use Rattle.std.proofs.Common.{◌≡◌, refl, sym, ap, ◌∙◌, ℕ, ◌^◌, ◌-◌, List, [], ◌∷◌, ◌&&◌, min, arith}
use Rattle.std.proofs.Math.Bool.{and-true, and_assoc}
use Rattle.std.proofs.lemmas.Bool.Decides.{nat_tests}
use Rattle.std.specs.Prelude.{nat_le}
use Rattle.cad_rows.specs.Views.{PlaceView, vacant, taken, before, as_row}
use Rattle.cad_world.specs.Rows.{Row, Tree}
use Rattle.cad_world.specs.Storable.{is_storable, is_storable_shape}

-- a place alone
pub storable_alone : (l : List ℕ) (t : Tree) → is_storable (as_row (taken l t ∷ [])) ≡ (is_storable_shape t.shape && is_storable t.parts)
storable_alone l t = ap (λ b. is_storable_shape t.shape && b) (and-true (is_storable t.parts))

-- a place before a row
pub storable_before : (v : PlaceView) (row : Row) → is_storable (before v row) ≡ (is_storable (as_row (v ∷ [])) && is_storable row)
storable_before vacant row = refl
storable_before (taken l t) row =
    sym (and_assoc (is_storable_shape t.shape) (is_storable t.parts) (is_storable row))
    ∙ ap (λ b. b && is_storable row) (sym (storable_alone l t))

-- what is as high as a number of 64 bits tells
pub low : (height seen : ℕ) → seen ≡ min height (2 ^ 64 - 1) → nat_le seen 256 ≡ nat_le height 256
low height seen is = grind (arith, nat_tests)
