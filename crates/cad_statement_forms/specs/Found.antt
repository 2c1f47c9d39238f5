-- What was found of the statements inside a statement.
use Rattle.std.specs.Prelude.{ℕ, Result, Ok, Err}
use Rattle.std.specs.declared.alloc.AllocError.{AllocError}
use Rattle.cad_statement_parts.specs.Blocks.{number_behind}

-- the number behind it; where memory ran out, nothing is asked of it
abbrev pub number_of : {A : Type 0} → Result (Result (A × ℕ) ℕ) AllocError → Result ℕ ℕ
number_of (Ok o) = number_behind o
number_of (Err k) = Err 0
