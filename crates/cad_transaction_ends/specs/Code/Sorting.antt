-- Where an item comes in among items in order.
use Rattle.std.specs.Prelude.{ℕ, suc, Bool, List, [], ◌∷◌, if◌then◌else◌}

abbrev pub place_in : {A : Type 0} → (A → A → Bool) → A → List A → ℕ
place_in before x [] = 0
place_in before x (y ∷ ys) = if before x y then 0 else suc (place_in before x ys)
