-- The parts of a number's bytes.
use Rattle.std.specs.Prelude.{◌≡◌, ◌≢◌, ℕ, ◌/◌, ◌%◌, ◌^◌, List, Option, Some}
use Rattle.cad_syntax.specs.declared.kind.Kind.TheVariants.{Address}
use Rattle.cad_syntax.specs.declared.num.Num.{Num}
use Rattle.cad_wire.specs.Fields.{◌>>=◌, byte_at, number_at}
use Rattle.cad_number_codec.specs.Spelling.{kind_byte, sign_byte}

-- a number's kind, sign, and upper and lower 64 bits
pub record HasParts (n : Num) (kind sign upper lower : ℕ) : Type 0 where
  pub a_number : n.kind ≢ Address
  pub kind_is : kind ≡ kind_byte n.kind
  pub sign_is : sign ≡ sign_byte n.negative
  pub upper_is : upper ≡ n.magnitude / 2 ^ 64
  pub lower_is : lower ≡ n.magnitude % 2 ^ 64

-- the four at the front, and the bytes after them
unfoldable pub parts_at : List ℕ → Option ((ℕ × ℕ × ℕ × ℕ) × List ℕ)
parts_at bytes = do
  kind ← byte_at bytes
  sign ← byte_at kind.1
  upper ← number_at sign.1
  lower ← number_at upper.1
  Some ((kind.0, sign.0, upper.0, lower.0), lower.1)
