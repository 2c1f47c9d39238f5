-- Lines and columns of a text.
use Rattle.std.specs.Prelude.{ℕ, Bool, suc, ◌&&◌, List, [], ◌∷◌, take, if◌then◌else◌, nat_eq, nat_le}
use Rattle.cad_diagnostics.specs.declared.positions.Position.{Position}

-- a byte of a character's UTF-8 behind its first
abbrev pub continues : ℕ → Bool
continues byte = nat_le 128 byte && nat_le byte 191

abbrev pub at : ℕ → ℕ → Position
at line column = record { line = line; column = column }

-- the position behind one more byte: a line feed ends the line, and a character counts once
abbrev pub behind : ℕ → Position → Position
behind byte p = if nat_eq byte 10 then at (suc p.line) 1 else (if continues byte then p else at p.line (suc p.column))

-- the position behind these bytes
abbrev pub behind_all : Position → List ℕ → Position
behind_all p [] = p
behind_all p (byte ∷ bytes) = behind_all (behind byte p) bytes

-- The position of the byte at a place of a text, or of the text's end: its line and its column, counted from 1; columns
-- count characters.
abbrev pub position_at : List ℕ → ℕ → Position
position_at text place = behind_all (at 1 1) (take place text)
