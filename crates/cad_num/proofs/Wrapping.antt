-- Integers modulo the number of words of a kind.
use Rattle.std.proofs.Common.{◌≡◌, ℕ, zero, suc, ◌+◌, ◌-◌, ◌*◌, ◌%◌, ◌^◌, ◌<◌, ◌≤◌, true, false, pos, bit_and, sym, ap, ◌∙◌, ⊎_elim, arith, add-zero}
use Rattle.std.proofs.Math.Nat.{mod-mod_of_dvd, mod-lt, mod-add-mod, add-mod-mod, mod-eq_of_lt, mod-eq-sub-mod, mul-mod_right, dvd_of_mod-eq-zero, zero-mod}
use Rattle.std.proofs.lemmas.Bool.{cases_lt}
use Rattle.std.proofs.lemmas.Nat.{and_mask, pow_pos}
use Rattle.std.specs.Int.{int_rem_euclid}
use Rattle.cad_syntax.specs.Kinds.{signed}
use Rattle.cad_num.proofs.KindRanges.{IsWordRange}

small_multiple : (m y : ℕ) → 0 < y → y < m + m → y % m ≡ 0 → y ≡ m
small_multiple m y some small h = ⊎_elim
    (λ (l : y < m). absurd (omega (arith, mod-eq_of_lt l)))
    (λ (l : m ≤ y). let rest : y - m < m = omega arith in omega (arith, mod-eq-sub-mod l, mod-eq_of_lt rest))
    (cases_lt y m)

-- what makes 0 with e + 1
complement : (m x e : ℕ) → 0 < m → (x + suc e) % m ≡ 0 → x % m ≡ m - 1 - e % m
complement m x e h z =
    let turned : x + (e % m + 1) ≡ e % m + (x + 1) = omega arith in
    let back : e + (x + 1) ≡ x + suc e = omega arith in
    let parts : (x % m + (e % m + 1)) % m ≡ 0 =
    mod-add-mod x m (e % m + 1) ∙ ap (λ n. n % m) turned ∙ mod-add-mod e m (x + 1) ∙ ap (λ n. n % m) back ∙ z in
    let low = mod-lt x h in
    let low' = mod-lt e h in
    let all = small_multiple m (x % m + (e % m + 1)) (omega arith) (omega arith) parts in
    omega arith

-- modulo M and then modulo a divisor of M
lower : (m q M n : ℕ) → m * q ≡ M → n % M % m ≡ n % m
lower m q M n e = mod-mod_of_dvd m n (dvd_of_mod-eq-zero m (ap (λ y. y % m) (sym e) ∙ mul-mod_right m q))

mask_is : (g k n : ℕ) → g ≡ 2 ^ k - 1 → bit_and n g ≡ n % (g + 1)
mask_is g k n h = ap (bit_and n) h ∙ and_mask n k ∙ ap (λ m. n % m) (omega (arith, pow_pos k))

multiple_of : {g : ℕ} → (r : IsWordRange g) → (g + 1) * 2 ^ r.more ≡ 2 ^ 128
multiple_of {g} r =
    let whole : g + 1 ≡ 2 ^ r.bits = omega (arith, pow_pos r.bits, r.greatest_is) in
    ap (λ m. m * 2 ^ r.more) whole ∙ r.multiple

-- a word of the low bits of a magnitude
pub wrapped_positive : {g : ℕ} → IsWordRange g → (low exact : ℕ) → low ≡ exact % 2 ^ 128 → pos (bit_and low g) ≡ int_rem_euclid (signed false exact) (pos (g + 1))
wrapped_positive {g} r low exact h =
    ap pos (mask_is g r.bits low r.greatest_is ∙ ap (λ n. n % (g + 1)) h ∙ lower (g + 1) (2 ^ r.more) (2 ^ 128) exact (multiple_of r))

zero_modulo : (m q M n : ℕ) → m * q ≡ M → n % M ≡ 0 → n % m ≡ 0
zero_modulo m q M n e h = sym (lower m q M n e) ∙ ap (λ y. y % m) h ∙ zero-mod m

sum_modulo : (M x low exact : ℕ) → low ≡ exact % M → (x + low) % M ≡ 0 → (x + exact) % M ≡ 0
sum_modulo M x low exact h z = sym (add-mod-mod x exact M) ∙ ap (λ n. (x + n) % M) (sym h) ∙ z

-- a word of what makes 0 with the low bits of a magnitude
pub wrapped_negative : {g : ℕ} → IsWordRange g → (low bits exact : ℕ) → low ≡ exact % 2 ^ 128 → (bits + low) % 2 ^ 128 ≡ 0 → pos (bit_and bits g) ≡ int_rem_euclid (signed true exact) (pos (g + 1))
wrapped_negative {g} r low bits zero h z =
    let all : bits % (g + 1) ≡ 0 =
    ap (λ n. n % (g + 1)) (sym (add-zero bits)) ∙ zero_modulo (g + 1) (2 ^ r.more) (2 ^ 128) (bits + 0) (multiple_of r) (sum_modulo (2 ^ 128) bits low 0 h z) in
    ap pos (mask_is g r.bits bits r.greatest_is ∙ all ∙ sym (zero-mod (g + 1)))
wrapped_negative {g} r low bits (suc e) h z =
    let all = zero_modulo (g + 1) (2 ^ r.more) (2 ^ 128) (bits + suc e) (multiple_of r) (sum_modulo (2 ^ 128) bits low (suc e) h z) in
    ap pos (mask_is g r.bits bits r.greatest_is ∙ complement (g + 1) bits e (omega arith) all)
