-- Values as bytes.
use Rattle.std.specs.Prelude.{◌≢◌, ℕ, ◌/◌, ◌%◌, ◌^◌, Bool, true, false, List, [], ◌∷◌, ◌++◌}
use Rattle.cad_syntax.specs.declared.kind.Kind.{Kind}
use Rattle.cad_syntax.specs.declared.kind.Kind.TheVariants.{Int, Int8, Int16, Int32, Int64, Int128, UInt, UInt8, UInt16, UInt32, UInt64, UInt128, Word8, Word16, Word32, Word64, Word128, Fix64, UFix64, Address}
use Rattle.cad_syntax.specs.declared.num.Num.{Num}
use Rattle.cad_number_codec.specs.declared.value.Value.{Value}
use Rattle.cad_number_codec.specs.declared.value.Value.TheVariants.{Number, Other}
use Rattle.cad_wire.specs.Fields.{number_field}

-- a kind's place in the order of the kinds
abbrev pub kind_byte : Kind → ℕ
kind_byte Int = 0
kind_byte Int8 = 1
kind_byte Int16 = 2
kind_byte Int32 = 3
kind_byte Int64 = 4
kind_byte Int128 = 5
kind_byte UInt = 6
kind_byte UInt8 = 7
kind_byte UInt16 = 8
kind_byte UInt32 = 9
kind_byte UInt64 = 10
kind_byte UInt128 = 11
kind_byte Word8 = 12
kind_byte Word16 = 13
kind_byte Word32 = 14
kind_byte Word64 = 15
kind_byte Word128 = 16
kind_byte Fix64 = 17
kind_byte UFix64 = 18
kind_byte Address = 19

abbrev pub sign_byte : Bool → ℕ
sign_byte false = 0
sign_byte true = 1

-- 16 bytes, the highest first: the number of the upper 64 bits, and that of the lower
abbrev pub magnitude_field : ℕ → List ℕ
magnitude_field magnitude = number_field (magnitude / 2 ^ 64) ++ number_field (magnitude % 2 ^ 64)

abbrev pub number_bytes : Num → List ℕ
number_bytes n = 4 ∷ kind_byte n.kind ∷ sign_byte n.negative ∷ magnitude_field n.magnitude

abbrev pub value_bytes : Value → List ℕ
value_bytes (Number n) = number_bytes n
value_bytes (Other _) = []

-- which values have bytes: an address isn't a number
abbrev pub HasBytes : Value → Type 0
HasBytes (Number n) = n.kind ≢ Address
HasBytes (Other _) = ⊥
