-- What a call of `take` does to the input that is left.
use Rattle.std.specs.Prelude.{◌≡◌, ℕ, ◌<◌, ◌≤◌, List, [], ◌++◌, length, take, drop, Result, Ok, Err}

-- n bytes came into the front of a buffer; none come into a buffer that has room only at the end of the input
pub record TakesFrom (left_old left_new into_old into_new : List ℕ) (n : ℕ) : Type 0 where
  pub within : n ≤ length left_old
  pub bytes : into_new ≡ take n left_old ++ drop n into_old
  pub left : left_new ≡ drop n left_old
  pub end : n ≡ 0 → 0 < length into_old → left_old ≡ []

-- a call that failed took nothing
abbrev pub Taking : {E : Type 0} → Result ℕ E → (left_old left_new into_old into_new : List ℕ) → Type 0
Taking (Ok n) left_old left_new into_old into_new = TakesFrom left_old left_new into_old into_new n
Taking (Err _) left_old left_new into_old into_new = left_new ≡ left_old
