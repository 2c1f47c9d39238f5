-- Which integers are no places in a text.
use Rattle.std.specs.Prelude.{◌≡◌, ℕ, ℤ, false, List}
use Rattle.cad_text.specs.Texts.{are_places}

abbrev pub IsNoPlace : List ℕ → ℤ → Type 0
IsNoPlace text z = (other : ℤ) → (are_places text z other ≡ false) × (are_places text other z ≡ false)
