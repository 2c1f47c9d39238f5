-- What is read of digits is the number that they write.
use Rattle.std.proofs.Common.{◌≡◌, ℕ, zero, suc, ◌+◌, ◌*◌, ◌^◌, ◌<◌, ◌≤◌, Bool, true, false, if◌then◌else◌, nat_lt, List, [], ◌∷◌, length, fold, Option, Some, None, IfSome, refl, sym, ap, ◌∙◌, arith}
use Rattle.std.proofs.Math.Nat.{mul-le-mul_right, le-mul_of_pos_right, pow-succ', mul_assoc, mul_comm}
use Rattle.std.proofs.lemmas.Bool.Decides.{Decides-ltb, nat_tests}
use Rattle.std.specs.Char.{digit_value}
use Rattle.cad_lex.specs.Code.Reading.{add_digit, number_from, power_of_ten}

abbrev pub written : ℕ → ℕ → List ℕ → ℕ
written radix = fold (λ n b. radix * n + digit_value b)

digit_is_small : (b : ℕ) → digit_value b ≤ 36
digit_is_small b = grind (arith, nat_tests)

abbrev Writes : ℕ → ℕ → List ℕ → Option ℕ → Type 0
Writes radix n digits o = IfSome o (λ m. (written radix n digits ≡ m) × (m < 2 ^ 128))

from_nothing : (radix : ℕ) (digits : List ℕ) → number_from radix None digits ≡ None
unfolding number_from add_digit
from_nothing radix [] = refl
from_nothing radix (b ∷ digits) = from_nothing radix digits

-- what is read is the number
pub number_is : (radix n : ℕ) (digits : List ℕ) → n < 2 ^ 128 → Writes radix n digits (number_from radix (Some n) digits)
unfolding number_from add_digit
number_is radix n [] h = (refl, h)
number_is radix n (b ∷ digits) h = by_test (nat_lt (radix * n + digit_value b) (2 ^ 128)) refl (number_is radix (radix * n + digit_value b) digits)
  where
    by_test : (v : Bool) → nat_lt (radix * n + digit_value b) (2 ^ 128) ≡ v
        → (radix * n + digit_value b < 2 ^ 128 → Writes radix (radix * n + digit_value b) digits (number_from radix (Some (radix * n + digit_value b)) digits))
        → Writes radix n (b ∷ digits) (number_from radix (if v then Some (radix * n + digit_value b) else None) digits)
    by_test true e later = later ((Decides-ltb _ _).0 e)
    by_test false e later = rw (from_nothing radix digits) tt

goes_up : (radix n d : ℕ) → n ≤ suc radix * n + d
goes_up radix n d = omega (arith, le-mul_of_pos_right {m = suc radix} n (omega arith), mul_comm n (suc radix))

written_grows : (radix n : ℕ) (digits : List ℕ) → n ≤ written (suc radix) n digits
written_grows radix n [] = omega arith
written_grows radix n (b ∷ digits) = omega (arith, goes_up radix n (digit_value b), written_grows radix (suc radix * n + digit_value b) digits)

digit_fits : (radix n b : ℕ) (digits : List ℕ) → written radix n (b ∷ digits) < 2 ^ 128 → radix * n + digit_value b < 2 ^ 128
digit_fits zero n b digits h = omega (arith, digit_is_small b)
digit_fits (suc radix) n b digits h = omega (arith, written_grows radix (suc radix * n + digit_value b) digits, h)

-- and the number of 128 bits is read
pub number_found : (radix n : ℕ) (digits : List ℕ) → written radix n digits < 2 ^ 128 → number_from radix (Some n) digits ≡ Some (written radix n digits)
unfolding number_from add_digit
number_found radix n [] h = refl
number_found radix n (b ∷ digits) h =
    let e : nat_lt (radix * n + digit_value b) (2 ^ 128) ≡ true = (Decides-ltb _ _).1 (digit_fits radix n b digits h) in
    ap (λ v. number_from radix (if v then Some (radix * n + digit_value b) else None) digits) e ∙ number_found radix (radix * n + digit_value b) digits h

-- decimal digits write less than a power of ten
next_power : (n d p : ℕ) → d < 10 → (10 * n + d + 1) * p ≤ (n + 1) * (10 * p)
next_power n d p small =
    let e : (n + 1) * (10 * p) ≡ ((n + 1) * 10) * p = sym (mul_assoc (n + 1) 10 p) in
    rw e (mul-le-mul_right p (omega arith))

abbrev pub AreDecimal : List ℕ → Type 0
AreDecimal [] = Unit {0}
AreDecimal (b ∷ digits) = (digit_value b < 10) × AreDecimal digits

pub below_power : (n : ℕ) (digits : List ℕ) → AreDecimal digits → written 10 n digits < (n + 1) * 10 ^ length digits
below_power n [] small = omega arith
below_power n (b ∷ digits) small =
    let d = digit_value b in
    let e : 10 ^ length (b ∷ digits) ≡ 10 * 10 ^ length digits = pow-succ' 10 (length digits) in
    let h = below_power (10 * n + d) digits small.1 in
    rw e (omega (arith, h, next_power n d (10 ^ length digits) small.0))

pub power_is : (n : ℕ) → n ≤ 8 → power_of_ten n ≡ 10 ^ n
unfolding power_of_ten
power_is zero h = refl
power_is (suc zero) h = refl
power_is (suc (suc zero)) h = refl
power_is (suc (suc (suc zero))) h = refl
power_is (suc (suc (suc (suc zero)))) h = refl
power_is (suc (suc (suc (suc (suc zero))))) h = refl
power_is (suc (suc (suc (suc (suc (suc zero)))))) h = refl
power_is (suc (suc (suc (suc (suc (suc (suc zero))))))) h = refl
power_is (suc (suc (suc (suc (suc (suc (suc (suc n)))))))) h = let e : n ≡ zero = omega arith in rw e refl
