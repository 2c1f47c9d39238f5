-- The ranges of kinds.
use Rattle.std.proofs.Common.{◌≡◌, ℕ, ◌-◌, ◌*◌, ◌^◌, true, ltb, refl}
use Rattle.cad_syntax.specs.Kinds.{greatest, depth}
use Rattle.cad_syntax.specs.declared.kind.Kind.{Kind}
use Rattle.cad_syntax.specs.declared.kind.Kind.TheVariants.{Int, Int8, Int16, Int32, Int64, Int128, UInt, UInt8, UInt16, UInt32, UInt64, UInt128, Word8, Word16, Word32, Word64, Word128, Fix64, UFix64, Address}
use Rattle.cad_num.specs.Numbers.{is_word, count_of}

pub greatest_small : (kind : Kind) → ltb (greatest kind) (2 ^ 128) ≡ true
greatest_small Int = refl
greatest_small Int8 = refl
greatest_small Int16 = refl
greatest_small Int32 = refl
greatest_small Int64 = refl
greatest_small Int128 = refl
greatest_small UInt = refl
greatest_small UInt8 = refl
greatest_small UInt16 = refl
greatest_small UInt32 = refl
greatest_small UInt64 = refl
greatest_small UInt128 = refl
greatest_small Word8 = refl
greatest_small Word16 = refl
greatest_small Word32 = refl
greatest_small Word64 = refl
greatest_small Word128 = refl
greatest_small Fix64 = refl
greatest_small UFix64 = refl
greatest_small Address = refl

pub depth_small : (kind : Kind) → ltb (depth kind) (2 ^ 128) ≡ true
depth_small Int = refl
depth_small Int8 = refl
depth_small Int16 = refl
depth_small Int32 = refl
depth_small Int64 = refl
depth_small Int128 = refl
depth_small Fix64 = refl
depth_small _ = refl

-- a word kind has 2 ^ k words, and 2 ^ 128 is a multiple of that
pub record IsWordRange (greatest : ℕ) : Type 0 where
  pub bits : ℕ
  pub more : ℕ
  pub greatest_is : greatest ≡ 2 ^ bits - 1
  pub multiple : 2 ^ bits * 2 ^ more ≡ 2 ^ 128

pub word_range : (kind : Kind) → is_word kind ≡ true → IsWordRange (greatest kind)
word_range Word8 h = record { bits = 8; more = 120; greatest_is = refl; multiple = refl }
word_range Word16 h = record { bits = 16; more = 112; greatest_is = refl; multiple = refl }
word_range Word32 h = record { bits = 32; more = 96; greatest_is = refl; multiple = refl }
word_range Word64 h = record { bits = 64; more = 64; greatest_is = refl; multiple = refl }
word_range Word128 h = record { bits = 128; more = 0; greatest_is = refl; multiple = refl }
word_range _ h = cc

-- each kind has 2 ^ k integers
pub record IsBitRange (count : ℕ) : Type 0 where
  pub bits : ℕ
  pub count_is : count ≡ 2 ^ bits

pub bit_range : (kind : Kind) → IsBitRange (count_of kind)
bit_range Int = record { bits = 128; count_is = refl }
bit_range Int8 = record { bits = 8; count_is = refl }
bit_range Int16 = record { bits = 16; count_is = refl }
bit_range Int32 = record { bits = 32; count_is = refl }
bit_range Int64 = record { bits = 64; count_is = refl }
bit_range Int128 = record { bits = 128; count_is = refl }
bit_range UInt = record { bits = 128; count_is = refl }
bit_range UInt8 = record { bits = 8; count_is = refl }
bit_range UInt16 = record { bits = 16; count_is = refl }
bit_range UInt32 = record { bits = 32; count_is = refl }
bit_range UInt64 = record { bits = 64; count_is = refl }
bit_range UInt128 = record { bits = 128; count_is = refl }
bit_range Word8 = record { bits = 8; count_is = refl }
bit_range Word16 = record { bits = 16; count_is = refl }
bit_range Word32 = record { bits = 32; count_is = refl }
bit_range Word64 = record { bits = 64; count_is = refl }
bit_range Word128 = record { bits = 128; count_is = refl }
bit_range Fix64 = record { bits = 64; count_is = refl }
bit_range UFix64 = record { bits = 64; count_is = refl }
bit_range Address = record { bits = 64; count_is = refl }
