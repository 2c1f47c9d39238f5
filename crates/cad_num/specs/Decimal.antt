-- Decimal texts of numbers.
use Rattle.std.specs.Prelude.{ℕ, ◌+◌, ◌-◌, ◌*◌, ◌/◌, ◌%◌, ◌^◌, Bool, ◌&&◌, if◌then◌else◌, nat_lt, nat_le, ◌==◌, int_le, List, [], ◌∷◌, ◌++◌, length, slice_index, drop, replicate, decimal, ℤ, Option, Some, None, option_map, option_and_then}
use Rattle.std.specs.List.{before_first, after_first}
use Rattle.std.specs.Str.{all_ascii_digits}
use Rattle.std.specs.Str.Parse.{digits_value}
use Rattle.cad_syntax.specs.Kinds.{depth, signed}
use Rattle.cad_syntax.specs.declared.kind.Kind.{Kind}
use Rattle.cad_syntax.specs.declared.num.Num.{Num}
use Rattle.cad_num.specs.Numbers.{is_fixed, least_of, greatest_of}

-- digits, one at least
abbrev pub is_numeral : List ℕ → Bool
is_numeral text = nat_lt 0 (length text) && all_ascii_digits text

-- the number that digits write
abbrev pub whole_of : List ℕ → Option ℕ
whole_of text = if is_numeral text then Some (digits_value 10 text) else None

abbrev pub is_point : ℕ → Bool
is_point byte = byte == 46

-- digits, a point and 1 to 8 digits
abbrev pub is_fixed_numeral : List ℕ → Bool
is_fixed_numeral text = is_numeral (before_first is_point text)
    && is_numeral (after_first is_point text) && nat_le (length (after_first is_point text)) 8

-- the number that they write, scaled by 10^8
abbrev pub fixed_of : List ℕ → Option ℕ
fixed_of text =
    let decimals = after_first is_point text in
    if is_fixed_numeral text
    then Some (digits_value 10 (before_first is_point text) * 10 ^ 8 + digits_value 10 decimals * 10 ^ (8 - length decimals))
    else None

abbrev pub magnitude_of : Kind → List ℕ → Option ℕ
magnitude_of kind text = if is_fixed kind then fixed_of text else whole_of text

-- a `-` stands before the number, which only kinds with numbers below 0 read
abbrev pub has_sign : Kind → List ℕ → Bool
has_sign kind text = nat_lt 0 (depth kind) && slice_index text 0 == 45

-- the text without it
abbrev pub unsigned_part : Kind → List ℕ → List ℕ
unsigned_part kind text = if has_sign kind text then drop 1 text else text

-- the integer that a text writes
abbrev pub spelled : Kind → List ℕ → Option ℤ
spelled kind text = option_map (signed (has_sign kind text)) (magnitude_of kind (unsigned_part kind text))

-- the same, where it is in the kind's range
unfoldable pub read_of : Kind → List ℕ → Option ℤ
read_of kind text = option_and_then
    (λ z. if int_le (least_of kind) z && int_le z (greatest_of kind) then Some z else None)
    (spelled kind text)

-- a number below 10^8 by 8 digits
abbrev pub eight_digits : ℕ → List ℕ
eight_digits n = replicate (8 - length (decimal n)) 48 ++ decimal n

-- a magnitude: its digits, or those before and after a point
abbrev pub magnitude_text : Kind → ℕ → List ℕ
magnitude_text kind n = if is_fixed kind then decimal (n / 10 ^ 8) ++ 46 ∷ eight_digits (n % 10 ^ 8) else decimal n

-- the text of a number
unfoldable pub written : Num → List ℕ
written n = (if n.negative then 45 ∷ [] else []) ++ magnitude_text n.kind n.magnitude

-- a number where it has at most 128 bits
abbrev pub within_128_bits : Option ℕ → Option ℕ
within_128_bits number = option_and_then (λ n. if nat_lt n (2 ^ 128) then Some n else None) number
