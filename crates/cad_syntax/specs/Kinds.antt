-- The kinds of numbers and their ranges.
use Rattle.std.specs.Prelude.{ℕ, ◌-◌, ◌^◌, Bool, true, false, ◌&&◌, nat_lt, nat_le, ℤ, pos, neg_ℤ}
use Rattle.cad_syntax.specs.declared.kind.Kind.{Kind}
use Rattle.cad_syntax.specs.declared.kind.Kind.TheVariants.{Int, Int8, Int16, Int32, Int64, Int128, UInt, UInt8, UInt16, UInt32, UInt64, UInt128, Word8, Word16, Word32, Word64, Word128, Fix64, UFix64, Address}

-- the greatest number of a kind; of a fixed-point kind scaled by 10^8
abbrev pub greatest : Kind → ℕ
greatest Int = 2 ^ 127 - 1
greatest Int8 = 2 ^ 7 - 1
greatest Int16 = 2 ^ 15 - 1
greatest Int32 = 2 ^ 31 - 1
greatest Int64 = 2 ^ 63 - 1
greatest Int128 = 2 ^ 127 - 1
greatest UInt = 2 ^ 128 - 1
greatest UInt8 = 2 ^ 8 - 1
greatest UInt16 = 2 ^ 16 - 1
greatest UInt32 = 2 ^ 32 - 1
greatest UInt64 = 2 ^ 64 - 1
greatest UInt128 = 2 ^ 128 - 1
greatest Word8 = 2 ^ 8 - 1
greatest Word16 = 2 ^ 16 - 1
greatest Word32 = 2 ^ 32 - 1
greatest Word64 = 2 ^ 64 - 1
greatest Word128 = 2 ^ 128 - 1
greatest Fix64 = 2 ^ 63 - 1
greatest UFix64 = 2 ^ 64 - 1
greatest Address = 2 ^ 64 - 1

-- how far a kind goes below 0
abbrev pub depth : Kind → ℕ
depth Int = 2 ^ 127
depth Int8 = 2 ^ 7
depth Int16 = 2 ^ 15
depth Int32 = 2 ^ 31
depth Int64 = 2 ^ 63
depth Int128 = 2 ^ 127
depth UInt = 0
depth UInt8 = 0
depth UInt16 = 0
depth UInt32 = 0
depth UInt64 = 0
depth UInt128 = 0
depth Word8 = 0
depth Word16 = 0
depth Word32 = 0
depth Word64 = 0
depth Word128 = 0
depth Fix64 = 2 ^ 63
depth UFix64 = 0
depth Address = 0

-- the integer with a sign and a magnitude
abbrev pub signed : Bool → ℕ → ℤ
signed true magnitude = neg_ℤ (pos magnitude)
signed false magnitude = pos magnitude

-- that integer is in the kind's range
abbrev pub in_range : Kind → Bool → ℕ → Bool
in_range kind true magnitude = nat_le magnitude (depth kind)
in_range kind false magnitude = nat_le magnitude (greatest kind)

-- a sign and a magnitude as they are kept: in range, and 0 has no sign
abbrev pub is_kept : Kind → Bool → ℕ → Bool
is_kept kind true magnitude = nat_lt 0 magnitude && nat_le magnitude (depth kind)
is_kept kind false magnitude = nat_le magnitude (greatest kind)
