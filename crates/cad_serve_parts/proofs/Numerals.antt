-- Numbers in decimal, without a leading zero.
use Rattle.std.proofs.Common.{◌≡◌, ◌≢◌, ℕ, zero, suc, ◌≤◌, ◌<◌, ◌^◌, ◌↔◌, IsTrue, Bool, false, List, [], ◌∷◌, length, get_or, Option, Some, None, Result, Ok, Err, sym, ◌∙◌, ap, subst, arith}
use Rattle.std.specs.Prelude.{codes, decimal, IfSome, IfNone}
use Rattle.std.specs.Result.{OkIff}
use Rattle.std.specs.Str.Parse.{ParsesUnsigned, IsNumeral, AllDigits, digits_value}
use Rattle.cad_serve_parts.specs.Words.{IsRun, IsGenerate}
use Rattle.std.proofs.lemmas.Bool.{false≢true}
use Rattle.std.proofs.lemmas.Fmt.{parse-decimal, decimal-digits_value, decimal_is_IsNumeral, decimal_nonempty, decimal_digit, first_decimal, decimal_injective}
use Rattle.std.proofs.lemmas.Str.Parse.{IsNumeralModel, numerals_by_value, tells_digits, not_in_digits, without_leading_plus_none}

own : IsNumeralModel (AllDigits 10) (digits_value 10)
own = numerals_by_value _ tells_digits

-- what was read, where neither a plus nor a zero stands first
pub read_ok : {E : Type 0} (bs : List ℕ) (r : Result ℕ E) (n : ℕ) → get_or bs 0 0 ≢ 43 → get_or bs 0 0 ≢ 48 → r ≡ Ok n → ParsesUnsigned 64 10 bs r → bs ≡ decimal n
read_ok {E} bs r n no_plus no_zero is h =
    let plain = subst (λ l. OkIff r (IsNumeral 10 l × (digits_value 10 l < 2 ^ 64)) (digits_value 10 l)) (without_leading_plus_none bs no_plus) h in
    let read = subst (λ (x : Result ℕ E). OkIff x (IsNumeral 10 bs × (digits_value 10 bs < 2 ^ 64)) (digits_value 10 bs)) is plain in
    sym (decimal-digits_value own bs read.0.0.1 read.0.0.0 (λ z. absurd (no_zero z)) read.0.1) ∙ ap decimal (sym read.1)

-- what is a number in decimal is read
pub is_read : {E : Type 0} (bs : List ℕ) (r : Result ℕ E) (n : ℕ) → n ≤ 100000 → bs ≡ decimal n → ParsesUnsigned 64 10 bs r → r ≡ Ok n
is_read bs r n small is h = parse-decimal 64 n bs r (omega (arith, small)) (omega (arith, small)) is h

abbrev ok_value : {E : Type 0} → ℕ → Result ℕ E → ℕ
ok_value d (Ok n) = n
ok_value d (Err e) = d

pub ok_is : {E : Type 0} (r : Result ℕ E) (m n : ℕ) → r ≡ Ok m → r ≡ Ok n → m ≡ n
ok_is r m n h k = ap (ok_value m) (sym h ∙ k)

pub err_is_none : {E : Type 0} (r : Result ℕ E) (e : E) (n : ℕ) → r ≡ Err e → r ≡ Ok n → ⊥
err_is_none r e n h k = let both = sym h ∙ k in cc both

-- a number that was read, where it isn't too large
pub small_some : (o : Option ℕ) (n : ℕ) (bs : List ℕ) → bs ≡ decimal n → IfSome o (λ m. (m ≡ n) × (m ≤ 100000)) → IfSome o (λ m. (bs ≡ decimal m) × (m ≤ 100000))
small_some None n bs is h = tt
small_some (Some m) n bs is h = (is ∙ ap decimal (sym h.0), h.1)

pub large_none : (o : Option ℕ) (n : ℕ) (bs : List ℕ) → ((k : ℕ) → k ≤ 100000 → bs ≡ decimal k → k ≡ n) → IfNone o (100000 < n) → IfNone o ((k : ℕ) → k ≤ 100000 → bs ≡ decimal k → ⊥)
large_none None n bs only h = λ k small is. omega (arith, only k small is, small, h)
large_none (Some m) n bs only h = tt

-- what stands first
pub first_is_no_plus : (bs : List ℕ) (n : ℕ) → n ≤ 100000 → bs ≡ decimal n → get_or bs 0 0 ≡ 43 → ⊥
first_is_no_plus bs n small is plus =
    let k = decimal_is_IsNumeral n (omega (arith, small)) in
    not_in_digits own (decimal n) 43 k.0.1 (λ inside. omega (arith, inside.0)) 0 k.0.0 (subst (λ l. get_or l 0 0 ≡ 43) is plus)

pub has_first : (bs : List ℕ) (n : ℕ) → n ≤ 100000 → bs ≡ decimal n → 0 < length bs
has_first bs n small is = let k = decimal_nonempty n (omega (arith, small)) in omega (arith, k, ap length is)

pub zero_is : decimal 0 ≡ 48 ∷ []
zero_is = decimal_digit 0 (omega arith)

pub zero_first : (bs : List ℕ) (n : ℕ) → n ≤ 100000 → bs ≡ decimal n → get_or bs 0 0 ≡ 48 → bs ≡ 48 ∷ []
zero_first bs zero small is first = is ∙ zero_is
zero_first bs (suc m) small is first =
    let k = first_decimal (suc m) (omega arith) (omega (arith, small)) in
    absurd (omega (arith, k, ap (λ l. get_or l 0 0) is, first))

-- one number at most
pub one_number : (m n : ℕ) → m ≤ 100000 → n ≤ 100000 → decimal m ≡ decimal n → m ≡ n
one_number m n small_m small_n e = decimal_injective m n (omega (arith, small_m)) (omega (arith, small_n)) e

-- the words and the number
pub asked_some : (o : Option ℕ) (words : List (List ℕ)) (command count : List ℕ) → words ≡ command ∷ count ∷ [] → IfSome o (λ n. (command ≡ codes "generate") × (count ≡ decimal n) × (n ≤ 100000))
    → IfSome o (λ n. IsGenerate words n)
asked_some None words command count are h = tt
asked_some (Some n) words command count are h = record { is = are ∙ (λ i. h.0 i ∷ h.1 i ∷ []); within = h.2 }

pub asked_none : (o : Option ℕ) (words : List (List ℕ)) (command count : List ℕ) → words ≡ command ∷ count ∷ []
    → IfNone o ((n : ℕ) → n ≤ 100000 → command ≡ codes "generate" → count ≡ decimal n → ⊥) → IfNone o ((n : ℕ) → IsGenerate words n → ⊥)
asked_none None words command count are h = λ n asked.
    let same = sym are ∙ asked.is in
    h n asked.within (ap (λ l. get_or l 0 []) same) (ap (λ l. get_or l 1 []) same)
asked_none (Some n) words command count are h = tt

-- a test of words
pub is_other : (b : Bool) (P : Type 0) → (IsTrue b ↔ P) → b ≡ false → P → ⊥
is_other b P tells is p = false≢true (sym is ∙ tells.1 p)

-- words are of one form at most
pub one_form : (words : List (List ℕ)) (n : ℕ) → IsRun words → IsGenerate words n → ⊥
one_form words n run asked = let e : 114 ≡ 103 = ap (λ l. get_or (get_or l 0 []) 0 0) (sym run.is ∙ asked.is) in omega (arith, e)

-- and ask for one number at most
pub one_asked : (words : List (List ℕ)) (m n : ℕ) → IsGenerate words m → IsGenerate words n → m ≡ n
one_asked words m n a b = one_number m n a.within b.within (ap (λ l. get_or l 1 []) (sym a.is ∙ b.is))
