-- How long a line may be.
use Rattle.std.specs.Prelude.{ℕ, ◌^◌}

-- how long a command may be, in bytes
abbrev pub longest : ℕ
longest = 2 ^ 20
