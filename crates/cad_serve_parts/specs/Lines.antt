-- The commands of an input.
use Rattle.std.specs.Prelude.{ℕ, ◌-◌, Bool, not, ◌||◌, ◌==◌, List, [], ◌∷◌, length, take, filter, if◌then◌else◌}
use Rattle.std.specs.List.{list_all}

-- a byte in front of the first line
abbrev pub before_first_line : ℕ → List (List ℕ) → List (List ℕ)
before_first_line b [] = (b ∷ []) ∷ []
before_first_line b (line ∷ lines) = (b ∷ line) ∷ lines

-- An input's lines, without their line feeds. A line feed ends a line, and so does the end of the input.
abbrev pub lines : List ℕ → List (List ℕ)
lines [] = [] ∷ []
lines (b ∷ bytes) = if b == 10 then [] ∷ lines bytes else before_first_line b (lines bytes)

-- a space, a tab or a carriage return
abbrev pub is_blank_byte : ℕ → Bool
is_blank_byte b = b == 32 || b == 9 || b == 13

-- Any line that isn't of spaces, tabs and carriage returns alone is a command.
abbrev pub is_command : List ℕ → Bool
is_command line = not (list_all is_blank_byte line)

abbrev pub commands_among : List (List ℕ) → List (List ℕ)
commands_among = filter is_command

abbrev pub commands : List ℕ → List (List ℕ)
commands input = commands_among (lines input)

-- those that a line feed has ended
abbrev pub ended : List ℕ → List (List ℕ)
ended input = commands_among (take (length (lines input) - 1) (lines input))
