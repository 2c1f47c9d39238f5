-- Counts of faults.
use Rattle.std.specs.Prelude.{◌≡◌, ◌⊎◌, ℕ, ◌-◌, ◌<◌, ◌≤◌, ◌^◌, Result, Ok, Err}

-- a count of faults rose; one that stands at its end counts as risen
abbrev pub Rose : ℕ → ℕ → Type 0
Rose old new = (old < new) ⊎ (new ≡ 2 ^ 64 - 1)

-- a call that failed raised the count, and no other call changes it
abbrev pub IsCaused : {T E : Type 0} → Result T E → ℕ → ℕ → Type 0
IsCaused (Ok _) old new = new ≡ old
IsCaused (Err _) old new = (old ≤ new) × Rose old new
