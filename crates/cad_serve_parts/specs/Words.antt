-- The words that the program is given.
use Rattle.std.specs.Prelude.{◌≡◌, ◌≢◌, ◌≤◌, ℕ, List, [], ◌∷◌, codes, decimal, slice_index}

-- `run` and a folder, which isn't empty and doesn't begin with `-`
pub record IsRun (words : List (List ℕ)) : Type 0 where
  pub folder : List ℕ
  pub is : words ≡ codes "run" ∷ folder ∷ []
  pub given : folder ≢ []
  pub no_option : slice_index folder 0 ≢ 45

-- `generate` and a number from 0 to 100,000, in decimal and without a leading zero
pub record IsGenerate (words : List (List ℕ)) (n : ℕ) : Type 0 where
  pub is : words ≡ codes "generate" ∷ decimal n ∷ []
  pub within : n ≤ 100000
