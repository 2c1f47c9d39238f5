-- A number is known from the parts of its bytes.
use Rattle.std.proofs.Common.{◌≡◌, ℕ, ◌/◌, ◌%◌, ◌^◌, ◌<◌, Bool, true, false, nat_le, List, [], ◌∷◌, refl, sym, ap, subst, ◌∙◌, arith}
use Rattle.std.specs.Prelude.{◌&&◌, slice_index_or}
use Rattle.std.proofs.lemmas.Bool.Decides.{nat_tests}
use Rattle.cad_syntax.specs.declared.kind.Kind.{Kind}
use Rattle.cad_syntax.specs.declared.kind.Kind.TheVariants.{Int, Int8, Int16, Int32, Int64, Int128, UInt, UInt8, UInt16, UInt32, UInt64, UInt128, Word8, Word16, Word32, Word64, Word128, Fix64, UFix64, Address}
use Rattle.cad_syntax.specs.declared.num.Num.{Num}
use Rattle.cad_syntax.specs.Kinds.{greatest, depth, is_kept}
use Rattle.cad_number_codec.proofs.Nums.{same_fields}
use Rattle.cad_number_codec.specs.Spelling.{kind_byte, sign_byte}
use Rattle.cad_number_codec.specs.Parts.{HasParts}

-- ---- kinds and signs

kinds : List Kind
kinds = Int ∷ Int8 ∷ Int16 ∷ Int32 ∷ Int64 ∷ Int128 ∷ UInt ∷ UInt8 ∷ UInt16 ∷ UInt32 ∷ UInt64 ∷ UInt128 ∷ Word8 ∷ Word16 ∷ Word32 ∷ Word64 ∷ Word128 ∷ Fix64 ∷ UFix64 ∷ Address ∷ []

kind_at : ℕ → Kind
kind_at n = slice_index_or kinds n Int

back : (k : Kind) → kind_at (kind_byte k) ≡ k
unfolding kind_at kinds
back Int = refl
back Int8 = refl
back Int16 = refl
back Int32 = refl
back Int64 = refl
back Int128 = refl
back UInt = refl
back UInt8 = refl
back UInt16 = refl
back UInt32 = refl
back UInt64 = refl
back UInt128 = refl
back Word8 = refl
back Word16 = refl
back Word32 = refl
back Word64 = refl
back Word128 = refl
back Fix64 = refl
back UFix64 = refl
back Address = refl

same_kind : (k j : Kind) → kind_byte k ≡ kind_byte j → k ≡ j
same_kind k j e = sym (back k) ∙ ap kind_at e ∙ back j

same_sign : (a b : Bool) → sign_byte a ≡ sign_byte b → a ≡ b
same_sign false false e = refl
same_sign false true e = absurd (omega arith)
same_sign true false e = absurd (omega arith)
same_sign true true e = refl

-- ---- magnitudes

within_depth : (k : Kind) → depth k < 2 ^ 128
within_depth Int = omega arith
within_depth Int8 = omega arith
within_depth Int16 = omega arith
within_depth Int32 = omega arith
within_depth Int64 = omega arith
within_depth Int128 = omega arith
within_depth Fix64 = omega arith
within_depth _ = omega arith

within_greatest : (k : Kind) → greatest k < 2 ^ 128
within_greatest Int = omega arith
within_greatest Int8 = omega arith
within_greatest Int16 = omega arith
within_greatest Int32 = omega arith
within_greatest Int64 = omega arith
within_greatest Int128 = omega arith
within_greatest UInt = omega arith
within_greatest UInt8 = omega arith
within_greatest UInt16 = omega arith
within_greatest UInt32 = omega arith
within_greatest UInt64 = omega arith
within_greatest UInt128 = omega arith
within_greatest Word8 = omega arith
within_greatest Word16 = omega arith
within_greatest Word32 = omega arith
within_greatest Word64 = omega arith
within_greatest Word128 = omega arith
within_greatest Fix64 = omega arith
within_greatest UFix64 = omega arith
within_greatest Address = omega arith

both_right : (a b : Bool) → (a && b) ≡ true → b ≡ true
both_right true b e = e
both_right false b e = absurd cc

below : (a b c : ℕ) → nat_le a b ≡ true → b < c → a < c
below a b c le lt = grind (arith, nat_tests)

kept_below : (k : Kind) (s : Bool) (m : ℕ) → is_kept k s m ≡ true → m < 2 ^ 128
kept_below k true m kept = below m (depth k) (2 ^ 128) (both_right _ (nat_le m (depth k)) kept) (within_depth k)
kept_below k false m kept = below m (greatest k) (2 ^ 128) kept (within_greatest k)

pub magnitude_below : (n : Num) → n.magnitude < 2 ^ 128
magnitude_below n = kept_below n.kind n.negative n.magnitude n.kept

same_magnitude : (a b : ℕ) → a / 2 ^ 64 ≡ b / 2 ^ 64 → a % 2 ^ 64 ≡ b % 2 ^ 64 → a ≡ b
same_magnitude a b upper lower = omega arith

-- ---- numbers

pub same_number : (n m : Num) (kind sign upper lower : ℕ) → HasParts n kind sign upper lower → HasParts m kind sign upper lower → n ≡ m
same_number n m kind sign upper lower a b =
    same_fields n.kind m.kind n.negative m.negative n.magnitude m.magnitude
    (same_kind n.kind m.kind (sym a.kind_is ∙ b.kind_is))
    (same_sign n.negative m.negative (sym a.sign_is ∙ b.sign_is))
    (same_magnitude n.magnitude m.magnitude (sym a.upper_is ∙ b.upper_is) (sym a.lower_is ∙ b.lower_is))
    n.kept m.kept
