-- The numbers of which generated transfers are made.
use Rattle.std.specs.Prelude.{ℕ, zero, suc, ◌+◌, ◌*◌, ◌%◌, ◌^◌}

-- the number behind one
abbrev pub next_number : ℕ → ℕ
next_number x = (x * 6364136223846793005 + 1442695040888963407) % 2 ^ 64

-- the one at an index; n stands at 0
abbrev pub number : ℕ → ℕ → ℕ
number n zero = n
number n (suc i) = next_number (number n i)
