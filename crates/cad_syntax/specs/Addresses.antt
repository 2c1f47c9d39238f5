-- The texts of addresses.
use Rattle.std.specs.Prelude.{ℕ, zero, suc, ◌/◌, ◌%◌, Bool, ◌&&◌, List, [], ◌∷◌, ◌++◌, length, drop, Option, Some, None, nat_le, nat_eq, codes, if◌then◌else◌}
use Rattle.std.specs.Char.{digit_char, is_digit}
use Rattle.std.specs.List.{list_all, starts_with}
use Rattle.std.specs.Str.Parse.{digits_value}

-- the k lowest hexadecimal digits of n in lower case, the highest of them first
unfoldable pub hex_digits : ℕ → ℕ → List ℕ
hex_digits zero n = []
hex_digits (suc k) n = hex_digits k (n / 16) ++ digit_char (n % 16) ∷ []

-- the number that hexadecimal digits in either case write
abbrev pub hex_number : List ℕ → Option ℕ
hex_number digits = if list_all (λ c. is_digit c 16) digits then Some (digits_value 16 digits) else None

-- `0x` and 16 digits
abbrev pub address_text : ℕ → List ℕ
address_text n = codes "0x" ++ hex_digits 16 n

-- `0x` and 1 to 16 bytes
abbrev pub is_prefixed : List ℕ → Bool
is_prefixed text = starts_with nat_eq text (codes "0x") && nat_le 3 (length text) && nat_le (length text) 18

-- the address that a text of `0x` and 1 to 16 hexadecimal digits writes
abbrev pub address_of : List ℕ → Option ℕ
address_of text = if is_prefixed text then hex_number (drop 2 text) else None
