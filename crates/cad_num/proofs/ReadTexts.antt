-- What decimal texts write.
use Rattle.std.proofs.Common.{◌≡◌, ◌≢◌, ℕ, ◌+◌, ◌-◌, ◌*◌, ◌^◌, ◌<◌, ◌≤◌, Bool, true, false, not, ◌&&◌, cond, leb, eqb, List, [], ◌∷◌, length, get_or, Option, Some, None, Result, Ok, Err, ℤ, pos, neg_ℤ, zero, suc, subst, refl, sym, ap, ◌∙◌, ⊎_elim, arith, option_map, option_and_then}
use Rattle.std.proofs.Math.Nat.{mul-lt-mul_of_pos_right, le_refl, one-le-pow}
use Rattle.std.proofs.lemmas.Bool.{and_from, and_parts, cases_Bool, cases_lt, lt-ltb, le-ltb, ltb-true, false≢true, false_from_ne_true, eqb-true}
use Rattle.std.proofs.lemmas.Bool.Decides.{nat_tests}
use Rattle.std.proofs.lemmas.Nat.{pow-add}
use Rattle.std.proofs.lemmas.Str.Parse.{IsNumeralModel, numerals_by_value, tells_all_ascii_digits, parse_plain, digits_value_short}
use Rattle.std.specs.Prelude.{int_le, IsSome, IfSome, ◌↔◌}
use Rattle.std.specs.Result.{OkIff, result_ok}
use Rattle.std.specs.Str.{all_ascii_digits}
use Rattle.std.specs.Str.Parse.{ParsesUnsigned, digits_value}
use Rattle.cad_syntax.specs.Kinds.{signed, in_range, greatest, depth}
use Rattle.cad_syntax.specs.declared.kind.Kind.{Kind}
use Rattle.cad_num.specs.Decimal.{is_numeral, whole_of, within_128_bits, magnitude_of, has_sign, unsigned_part, read_of}
use Rattle.cad_num.specs.Numbers.{least_of, greatest_of, value_of}
use Rattle.cad_syntax.specs.declared.num.Num.{Num}
use Rattle.cad_num.proofs.Outcomes.{large_out}
use Rattle.cad_num.proofs.Signs.{signed-kept}

pub decimal_digits : IsNumeralModel (λ ds. all_ascii_digits ds ≡ true) (digits_value 10)
decimal_digits = numerals_by_value _ tells_all_ascii_digits

pub whole_of-numeral : (bs : List ℕ) → is_numeral bs ≡ true → whole_of bs ≡ Some (digits_value 10 bs)
whole_of-numeral bs h = ap (λ b. cond b (Some (digits_value 10 bs)) None) h

pub whole_of-other : (bs : List ℕ) → is_numeral bs ≡ false → whole_of bs ≡ None
whole_of-other bs h = ap (λ b. cond b (Some (digits_value 10 bs)) None) h

pub within-small : (n : ℕ) → n < 2 ^ 128 → within_128_bits (Some n) ≡ Some n
within-small n h = ap (λ b. cond b (Some n) None) (lt-ltb n (2 ^ 128) h)

pub within-large : (n : ℕ) → 2 ^ 128 ≤ n → within_128_bits (Some n) ≡ None
within-large n h = ap (λ b. cond b (Some n) None) (le-ltb n (2 ^ 128) h)

-- what `parse` answers
answer : {E : Type 0} (bs : List ℕ) (r : Result ℕ E) → OkIff r ((all_ascii_digits bs ≡ true) × (0 < length bs) × (digits_value 10 bs < 2 ^ 128)) (digits_value 10 bs) → result_ok r ≡ within_128_bits (whole_of bs)
answer bs (Ok n) h =
    ap Some h.1 ∙ sym (within-small _ h.0.2) ∙
    ap within_128_bits (sym (whole_of-numeral bs (and_from _ _ (lt-ltb 0 (length bs) h.0.1) h.0.0)))
answer bs (Err e) h = ⊎_elim
    (λ (numeral : is_numeral bs ≡ true).
    let parts = and_parts _ _ numeral in
    ⊎_elim
    (λ (small : digits_value 10 bs < 2 ^ 128). absurd (h (parts.1, ltb-true 0 (length bs) parts.0, small)))
    (λ (large : 2 ^ 128 ≤ digits_value 10 bs). sym (within-large _ large) ∙ ap within_128_bits (sym (whole_of-numeral bs numeral)))
    (cases_lt (digits_value 10 bs) (2 ^ 128)))
    (λ (other : is_numeral bs ≡ false). ap within_128_bits (sym (whole_of-other bs other)))
    (cases_Bool (is_numeral bs))

pub whole_from_parse : {E : Type 0} (bs : List ℕ) (r : Result ℕ E) → ParsesUnsigned 128 10 bs r → get_or bs 0 0 ≢ 43 → result_ok r ≡ within_128_bits (whole_of bs)
whole_from_parse bs r h n = answer bs r (parse_plain decimal_digits 128 bs r h n)

-- up to eight digits
pub value-short : (bs : List ℕ) → is_numeral bs ≡ true → length bs ≤ 8 → digits_value 10 bs * 10 ^ (8 - length bs) < 10 ^ 8
value-short bs h le =
    let small = digits_value_short decimal_digits bs (length bs) ((and_parts _ _ h).1) (le_refl _) in
    let all : length bs + (8 - length bs) ≡ 8 = omega arith in
    let power : 10 ^ length bs * 10 ^ (8 - length bs) ≡ 10 ^ 8 = sym (pow-add 10 (length bs) (8 - length bs)) ∙ ap (λ k. 10 ^ k) all in
    let P : ℕ → Type 0 = λ n. digits_value 10 bs * 10 ^ (8 - length bs) < n in
    subst P power (mul-lt-mul_of_pos_right small (one-le-pow (8 - length bs) 10 (omega arith)))

pub none-short : (bs : List ℕ) → length bs ≤ 8 → within_128_bits (whole_of bs) ≡ None → is_numeral bs ≡ false
none-short bs le h = false_from_ne_true _ (λ n.
    let small = digits_value_short decimal_digits bs 8 ((and_parts _ _ n).1) le in
    let is_some = ap within_128_bits (whole_of-numeral bs n) ∙ within-small (digits_value 10 bs) (omega (arith, small)) in
    cc)

some-within : (m n : ℕ) → within_128_bits (Some m) ≡ Some n → n ≡ m
some-within m n h = ⊎_elim
    (λ (small : m < 2 ^ 128). let e = within-small m small in cc)
    (λ (large : 2 ^ 128 ≤ m). let e = within-large m large in cc)
    (cases_lt m (2 ^ 128))

pub some-whole : (bs : List ℕ) (n : ℕ) → within_128_bits (whole_of bs) ≡ Some n → (is_numeral bs ≡ true) × (n ≡ digits_value 10 bs)
some-whole bs n h = ⊎_elim
    (λ (numeral : is_numeral bs ≡ true). (numeral, some-within _ n (ap within_128_bits (sym (whole_of-numeral bs numeral)) ∙ h)))
    (λ (other : is_numeral bs ≡ false). let e = ap within_128_bits (whole_of-other bs other) in cc)
    (cases_Bool (is_numeral bs))

-- ranges by the integers
range_below : (d g n : ℕ) → (int_le (neg_ℤ (pos d)) (neg_ℤ (pos n)) && int_le (neg_ℤ (pos n)) (pos g)) ≡ leb n d
range_below zero g zero = grind (arith, nat_tests)
range_below zero g (suc n) = grind (arith, nat_tests)
range_below (suc d) g zero = grind (arith, nat_tests)
range_below (suc d) g (suc n) = grind (arith, nat_tests)

range_above : (d g n : ℕ) → (int_le (neg_ℤ (pos d)) (pos n) && leb n g) ≡ leb n g
range_above zero g n = grind (arith, nat_tests)
range_above (suc d) g n = grind (arith, nat_tests)

int_range : (kind : Kind) (s : Bool) (n : ℕ) → (int_le (least_of kind) (signed s n) && int_le (signed s n) (greatest_of kind)) ≡ in_range kind s n
int_range kind true n = range_below (depth kind) (greatest kind) n
int_range kind false n = range_above (depth kind) (greatest kind) n

abbrev ranged : Kind → ℤ → Option ℤ
ranged kind z = cond (int_le (least_of kind) z && int_le z (greatest_of kind)) (Some z) None

abbrev read_by : Kind → Bool → Option ℕ → Option ℤ
read_by kind s m = option_and_then (ranged kind) (option_map (signed s) m)

pub read_of-in : (kind : Kind) (bs : List ℕ) (n : ℕ) → magnitude_of kind (unsigned_part kind bs) ≡ Some n → in_range kind (has_sign kind bs) n ≡ true → read_of kind bs ≡ Some (signed (has_sign kind bs) n)
unfolding read_of
read_of-in kind bs n h r =
    ap (read_by kind (has_sign kind bs)) h ∙
    ap (λ b. cond b (Some (signed (has_sign kind bs) n)) None) (int_range kind (has_sign kind bs) n ∙ r)

pub read_of-out : (kind : Kind) (bs : List ℕ) (n : ℕ) → magnitude_of kind (unsigned_part kind bs) ≡ Some n → in_range kind (has_sign kind bs) n ≡ false → read_of kind bs ≡ None
unfolding read_of
read_of-out kind bs n h r =
    ap (read_by kind (has_sign kind bs)) h ∙
    ap (λ b. cond b (Some (signed (has_sign kind bs) n)) None) (int_range kind (has_sign kind bs) n ∙ r)

read_of-off : (kind : Kind) (bs : List ℕ) → magnitude_of kind (unsigned_part kind bs) ≡ None → read_of kind bs ≡ None
unfolding read_of
read_of-off kind bs h = ap (read_by kind (has_sign kind bs)) h

none-at : (kind : Kind) (bs : List ℕ) (m : Option ℕ) → magnitude_of kind (unsigned_part kind bs) ≡ m → within_128_bits m ≡ None → read_of kind bs ≡ None
none-at kind bs None h w = read_of-off kind bs h
none-at kind bs (Some n) h w = ⊎_elim
    (λ (small : n < 2 ^ 128). let e = within-small n small in cc)
    (λ (large : 2 ^ 128 ≤ n). read_of-out kind bs n h (large_out kind _ n large))
    (cases_lt n (2 ^ 128))

pub read_of-none : (kind : Kind) (bs : List ℕ) → within_128_bits (magnitude_of kind (unsigned_part kind bs)) ≡ None → read_of kind bs ≡ None
read_of-none kind bs h = none-at kind bs _ refl h

some-at : (m : Option ℕ) (n : ℕ) → within_128_bits m ≡ Some n → m ≡ Some n
some-at None n h = cc
some-at (Some m) n h = ap Some (sym (some-within m n h))

-- what `Num::new` makes of the magnitude
pub read_of-new : (kind : Kind) (bs : List ℕ) (n : ℕ) → within_128_bits (magnitude_of kind (unsigned_part kind bs)) ≡ Some n → read_of kind bs ≡ cond (in_range kind (has_sign kind bs) n) (Some (signed (has_sign kind bs) n)) None
read_of-new kind bs n h = ⊎_elim
    (λ (r : in_range kind (has_sign kind bs) n ≡ true). read_of-in kind bs n (some-at _ n h) r ∙ sym (ap (λ b. cond b (Some (signed (has_sign kind bs) n)) None) r))
    (λ (r : in_range kind (has_sign kind bs) n ≡ false). read_of-out kind bs n (some-at _ n h) r ∙ sym (ap (λ b. cond b (Some (signed (has_sign kind bs) n)) None) r))
    (cases_Bool (in_range kind (has_sign kind bs) n))

-- the first byte
pub no_sign : (bs : List ℕ) → ((rest : List ℕ) → bs ≢ 45 ∷ rest) → eqb (get_or bs 0 0) 45 ≡ false
no_sign [] h = refl
no_sign (b ∷ bs) h = false_from_ne_true _ (λ e. h bs (ap (λ x. x ∷ bs) (eqb-true b 45 e)))

-- the integer of what `Num::new` makes
pub new_value : (kind : Kind) (s : Bool) (n : ℕ) (r : Option Num) → IsSome r ↔ (in_range kind s n ≡ true) → IfSome r (λ k. k.negative ≡ (s && not (eqb n 0))) → IfSome r (λ k. k.magnitude ≡ n) → option_map value_of r ≡ cond (in_range kind s n) (Some (signed s n)) None
new_value kind s n None some sign magnitude =
    sym (ap (λ b. cond b (Some (signed s n)) None) (false_from_ne_true _ (λ e. false≢true (some.1 e))))
new_value kind s n (Some k) some sign magnitude =
    ap Some (signed-kept k.negative s k.magnitude n sign magnitude) ∙
    sym (ap (λ b. cond b (Some (signed s n)) None) (some.0 refl))
