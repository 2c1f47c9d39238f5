-- What arithmetic gives. A number means an integer; that of a fixed-point kind is scaled by 10^8.
use Rattle.std.specs.Prelude.{◌≡◌, ℕ, zero, ◌+◌, ◌%◌, ◌^◌, ◌<◌, Bool, true, false, if◌then◌else◌, nat_le, bit_and, bit_or, bit_xor, ℤ, pos, ◌+ℤ◌, ◌-ℤ◌, ◌*ℤ◌, neg_ℤ, int_lt, int_div, unsigned_abs, Result, Ok, Err}
use Rattle.std.specs.Bool.{FalseIff}
use Rattle.std.specs.Int.{int_rem_euclid, int_min, int_max}
use Rattle.cad_syntax.specs.Kinds.{greatest, depth, signed}
use Rattle.cad_syntax.specs.declared.kind.Kind.{Kind}
use Rattle.cad_syntax.specs.declared.kind.Kind.TheVariants.{Word8, Word16, Word32, Word64, Word128, Fix64, UFix64}
use Rattle.cad_syntax.specs.declared.num.Num.{Num}
use Rattle.cad_num.specs.declared.error.NumError.{NumError}
use Rattle.cad_num.specs.declared.error.NumError.TheVariants.{Overflow, Underflow, DivisionByZero}
use Rattle.cad_num.specs.declared.exact.Exact.{Exact}
use Rattle.cad_num.specs.declared.saturation.Op.{Op}
use Rattle.cad_num.specs.declared.saturation.Op.TheVariants.{Add, Sub, Mul, Div}
use Rattle.cad_num.specs.declared.bitwise.BitOp.{BitOp}
use Rattle.cad_num.specs.declared.bitwise.BitOp.TheVariants.{And, Or, Xor}

-- the integer that a number means
abbrev pub value_of : Num → ℤ
value_of n = signed n.negative n.magnitude

-- a result by the integer of its number
abbrev pub valued : Result Num NumError → Result ℤ NumError
valued (Ok n) = Ok (value_of n)
valued (Err e) = Err e

-- the kinds that wrap
abbrev pub is_word : Kind → Bool
is_word Word8 = true
is_word Word16 = true
is_word Word32 = true
is_word Word64 = true
is_word Word128 = true
is_word _ = false

-- the kinds with 8 decimals
abbrev pub is_fixed : Kind → Bool
is_fixed Fix64 = true
is_fixed UFix64 = true
is_fixed _ = false

-- the integer of the number one
abbrev pub scale : Kind → ℕ
scale kind = if is_fixed kind then 10 ^ 8 else 1

-- the least and the greatest integer of a kind
abbrev pub least_of : Kind → ℤ
least_of kind = neg_ℤ (pos (depth kind))

abbrev pub greatest_of : Kind → ℤ
greatest_of kind = pos (greatest kind)

-- what a kind makes of an integer: itself where it is in range; a word kind takes it modulo the number of its words
unfoldable pub outcome : Kind → ℤ → Result ℤ NumError
outcome kind z =
    if is_word kind then Ok (int_rem_euclid z (pos (greatest kind + 1)))
    else if int_lt (greatest_of kind) z then Err Overflow
    else if int_lt z (least_of kind) then Err Underflow
    else Ok z

-- a result by a divisor, which isn't 0
abbrev pub divided_by : ℤ → Result ℤ NumError → Result ℤ NumError
divided_by (pos zero) result = Err DivisionByZero
divided_by _ result = result

-- the integer of an operation; products and quotients are truncated toward zero
abbrev pub exact_of : Op → Kind → ℤ → ℤ → ℤ
exact_of Add kind x y = x +ℤ y
exact_of Sub kind x y = x -ℤ y
exact_of Mul kind x y = int_div (x *ℤ y) (pos (scale kind))
exact_of Div kind x y = int_div (x *ℤ pos (scale kind)) y

-- the nearest integer in a kind's range
unfoldable pub nearest : Kind → ℤ → ℤ
nearest kind z = int_max (least_of kind) (int_min z (greatest_of kind))

abbrev pub saturated : Op → Kind → ℤ → ℤ → Result ℤ NumError
saturated Div kind x y = divided_by y (Ok (nearest kind (exact_of Div kind x y)))
saturated op kind x y = Ok (nearest kind (exact_of op kind x y))

-- how many integers a kind has
abbrev pub count_of : Kind → ℕ
count_of kind = greatest kind + depth kind + 1

-- an integer in two's complement, and the integer of such bits
abbrev pub twos_complement : Kind → ℤ → ℕ
twos_complement kind z = unsigned_abs (int_rem_euclid z (pos (count_of kind)))

abbrev pub from_twos_complement : Kind → ℕ → ℤ
from_twos_complement kind bits = if nat_le bits (greatest kind) then pos bits else pos bits -ℤ pos (count_of kind)

abbrev pub bit_by_bit : BitOp → ℕ → ℕ → ℕ
bit_by_bit And x y = bit_and x y
bit_by_bit Or x y = bit_or x y
bit_by_bit Xor x y = bit_xor x y

-- an integer by its sign, the low 128 bits of its magnitude and whether that has more
pub record IsExact (e : Exact) (z : ℤ) : Type 0 where
  pub magnitude : ℕ
  pub integer : z ≡ signed e.negative magnitude
  pub low : e.low ≡ magnitude % 2 ^ 128
  pub over : FalseIff e.over (magnitude < 2 ^ 128)
