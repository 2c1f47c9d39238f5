-- The reading of an identifier's text.
use Rattle.std.specs.Prelude.{ℕ, Bool, ◌&&◌, ◌||◌, ◌==◌, if◌then◌else◌, Option, Some, None, List, [], ◌∷◌, length, map, codes}
use Rattle.std.specs.Char.{is_ascii_digit}
use Rattle.std.specs.Int.{is_in_range}
use Rattle.std.specs.Cmp.Lexicographic.{pointwise}
use Rattle.std.specs.List.{list_all}
use Rattle.cad_syntax.specs.Addresses.{hex_number}
use Rattle.cad_syntax.specs.Names.{is_name_text}
use Rattle.cad_syntax.specs.declared.text.Name.{Name}
use Rattle.cad_syntax.specs.declared.type_id.TypeId.{TypeId}

-- a digit, or a letter from a to f
abbrev pub is_lower_digit : ℕ → Bool
is_lower_digit b = is_ascii_digit b || is_in_range 97 102 b

-- the number that 16 digits in lower case write
abbrev pub full_number : List ℕ → Option ℕ
full_number digits = if length digits == 16 && list_all is_lower_digit digits then hex_number digits else None

-- the names, if all of the texts are names
abbrev pub names_of : List (List ℕ) → Option (List Name)
names_of texts = if list_all is_name_text texts then Some (map (λ text. record { 0 = text }) texts) else None

abbrev pub id_from : Option ℕ → Option (List Name) → Option TypeId
id_from (Some number) (Some names) = Some (record { address = record { 0 = number }; names = names })
id_from (Some number) None = None
id_from None names = None

-- the identifier whose text has these parts between its dots
abbrev pub id_of : List (List ℕ) → Option TypeId
id_of [] = None
id_of (letter ∷ []) = None
id_of (letter ∷ digits ∷ names) = if pointwise ◌==◌ letter (codes "A") then id_from (full_number digits) (names_of names) else None
