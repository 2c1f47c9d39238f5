-- Integers by sign and magnitude.
use Rattle.std.specs.Bool.{beq}
use Rattle.std.proofs.lemmas.Bool.{ne_eqb, lt-ltb}
use Rattle.std.proofs.Math.Nat.{mul-zero, zero-mul, div-zero, zero-div}
use Rattle.std.proofs.Common.{eqb, ltb, zero, suc, ◌&&◌, ap, ◌∙◌, ◌≡◌, ℕ, ◌+◌, ◌-◌, ◌*◌, ◌/◌, ◌≤◌, Bool, true, false, not, pos, ◌+ℤ◌, ◌*ℤ◌, refl, arith}
use Rattle.std.specs.Prelude.{int_div}
use Rattle.cad_syntax.specs.Kinds.{signed}

-- negative zero is zero
pub signed-unsigned_zero : (s : Bool) (m : ℕ) → signed (s && not (eqb m 0)) m ≡ signed s m
signed-unsigned_zero true zero = refl
signed-unsigned_zero true (suc m) = rw (ne_eqb (suc m) 0 (λ e. omega arith)) refl
signed-unsigned_zero false m = refl

pub product : (s t : Bool) (m n : ℕ) → signed s m *ℤ signed t n ≡ signed (not (beq s t)) (m * n)
product false false m n = refl
product false true m zero = simp mul-zero
product false true m (suc n) = refl
product true false zero n = simp zero-mul
product true false (suc m) n = refl
product true true zero zero = simp mul-zero
product true true (suc m) zero = simp mul-zero
product true true zero (suc n) = simp zero-mul
product true true (suc m) (suc n) = refl

pub quotient : (s t : Bool) (m n : ℕ) → int_div (signed s m) (signed t n) ≡ signed (not (beq s t)) (m / n)
quotient false false m n = refl
quotient false true m zero = simp div-zero
quotient false true m (suc n) = refl
quotient true false zero n = simp zero-div
quotient true false (suc m) n = refl
quotient true true zero zero = refl
quotient true true (suc m) zero = simp div-zero
quotient true true zero (suc n) = simp zero-div
quotient true true (suc m) (suc n) = refl

-- by a divisor that isn't negative
pub quotient_scaled : (s : Bool) (m d : ℕ) → int_div (signed s m) (pos d) ≡ signed s (m / d)
quotient_scaled true zero d = simp zero-div
quotient_scaled true (suc m) d = refl
quotient_scaled false m d = refl

pub product_scaled : (s t : Bool) (m n d : ℕ) → int_div (signed s m *ℤ signed t n) (pos d) ≡ signed (not (beq s t)) (m * n / d)
product_scaled s t m n d = ap (λ z. int_div z (pos d)) (product s t m n) ∙ quotient_scaled (not (beq s t)) (m * n) d

-- a number as `Num::new` makes it
pub signed-kept : (s t : Bool) (m n : ℕ) → s ≡ (t && not (eqb n 0)) → m ≡ n → signed s m ≡ signed t n
signed-kept s t m n e f = ap (λ b. signed b m) e ∙ ap (signed (t && not (eqb n 0))) f ∙ signed-unsigned_zero t n

pub product_unsigned : (s : Bool) (m d : ℕ) → signed s m *ℤ pos d ≡ signed s (m * d)
product_unsigned true zero d = simp zero-mul
product_unsigned true (suc m) d = refl
product_unsigned false m d = refl

pub quotient_rescaled : (s : Bool) (m d e : ℕ) → int_div (signed s m *ℤ pos d) (pos e) ≡ signed s (m * d / e)
quotient_rescaled s m d e = ap (λ z. int_div z (pos e)) (product_unsigned s m d) ∙ quotient_scaled s (m * d) e

pub quotient_divided : (s t : Bool) (m d n : ℕ) → int_div (signed s m *ℤ pos d) (signed t n) ≡ signed (not (beq s t)) (m * d / n)
quotient_divided s t m d n = ap (λ z. int_div z (signed t n)) (product_unsigned s m d) ∙ quotient s t (m * d) n

pub signed-below_zero : (s : Bool) (m : ℕ) → signed (s && ltb 0 m) m ≡ signed s m
signed-below_zero true zero = refl
signed-below_zero true (suc m) = rw (lt-ltb 0 (suc m) (omega arith)) refl
signed-below_zero false m = refl
