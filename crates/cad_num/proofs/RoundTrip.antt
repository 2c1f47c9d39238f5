-- A number is read back from its text.
use Rattle.std.proofs.Common.{◌≡◌, ℕ, zero, suc, ◌+◌, ◌-◌, ◌*◌, ◌/◌, ◌%◌, ◌^◌, ◌<◌, ◌≤◌, Bool, true, false, not, ◌&&◌, cond, leb, eqb, List, [], ◌∷◌, ◌++◌, length, replicate, take, drop, get_or, decimal, Option, Some, None, refl, sym, ap, ◌∙◌, arith, length-append}
use Rattle.std.proofs.Math.Seq.{take-append_seam, drop-append-add}
use Rattle.std.proofs.lemmas.Bool.{and_from, and_parts, and_right, lt-ltb, le-leb, ltb-true, leb-true, ne_eqb, false≢true}
use Rattle.std.proofs.lemmas.Fmt.{decimal_is_IsNumeral_wide, length-decimal-le_wide}
use Rattle.std.proofs.lemmas.List.{length-replicate, append-nil}
use Rattle.std.proofs.lemmas.Nat.{div-add-mod', mod_below}
use Rattle.std.specs.List.{position_or_len, before_first, after_first}
use Rattle.std.specs.Str.{all_ascii_digits}
use Rattle.std.specs.Str.Parse.{digits_value}
use Rattle.std.specs.Char.{is_ascii_digit}
use Rattle.cad_syntax.specs.Kinds.{greatest, depth, in_range, is_kept, signed}
use Rattle.cad_syntax.specs.declared.kind.Kind.{Kind}
use Rattle.cad_syntax.specs.declared.num.Num.{Num}
use Rattle.cad_num.specs.Decimal.{is_numeral, whole_of, is_point, fixed_of, magnitude_of, has_sign, unsigned_part, eight_digits, magnitude_text, written, read_of}
use Rattle.cad_num.specs.Numbers.{is_fixed, value_of}
use Rattle.cad_num.proofs.KindRanges.{greatest_small, depth_small}
use Rattle.cad_num.proofs.ReadTexts.{decimal_digits, whole_of-numeral, read_of-in}

-- digits
digit_range : (c : ℕ) → is_ascii_digit c ≡ true → (48 ≤ c) × (c ≤ 57)
digit_range c h = let parts = and_parts _ _ h in (leb-true 48 c parts.0, leb-true c 57 parts.1)

all_zeros : (k : ℕ) (ds : List ℕ) → all_ascii_digits (replicate k 48 ++ ds) ≡ all_ascii_digits ds
all_zeros zero ds = refl
all_zeros (suc k) ds = all_zeros k ds

value_zeros : (k : ℕ) (ds : List ℕ) → digits_value 10 (replicate k 48 ++ ds) ≡ digits_value 10 ds
value_zeros zero ds = refl
value_zeros (suc k) ds = value_zeros k ds

all_digits : (n : ℕ) → n < 10 ^ 64 → all_ascii_digits (decimal n) ≡ true
all_digits n h = decimal_digits.from (decimal n) ((decimal_is_IsNumeral_wide n h).0.1)

numeral_decimal : (n : ℕ) → n < 10 ^ 64 → is_numeral (decimal n) ≡ true
numeral_decimal n h = and_from _ _ (lt-ltb 0 _ ((decimal_is_IsNumeral_wide n h).0.0)) (all_digits n h)

value_decimal : (n : ℕ) → n < 10 ^ 64 → digits_value 10 (decimal n) ≡ n
value_decimal n h = (decimal_is_IsNumeral_wide n h).1

-- eight digits
length-eight : (n : ℕ) → n < 10 ^ 8 → length (eight_digits n) ≡ 8
length-eight n h =
    let short = length-decimal-le_wide 8 n (omega arith) h (omega arith) in
    length-append (replicate (8 - length (decimal n)) 48) (decimal n) ∙ ap (λ k. k + length (decimal n)) (length-replicate (8 - length (decimal n)) 48) ∙ omega arith

numeral_eight : (n : ℕ) → n < 10 ^ 8 → is_numeral (eight_digits n) ≡ true
numeral_eight n h =
    let long = length-eight n h in
    and_from _ _ (lt-ltb 0 _ (omega arith)) (all_zeros (8 - length (decimal n)) (decimal n) ∙ all_digits n (omega arith))

value_eight : (n : ℕ) → n < 10 ^ 8 → digits_value 10 (eight_digits n) ≡ n
value_eight n h = value_zeros (8 - length (decimal n)) (decimal n) ∙ value_decimal n (omega arith)

-- round the point
point_after : (w f : List ℕ) → all_ascii_digits w ≡ true → position_or_len is_point (w ++ 46 ∷ f) ≡ length w
point_after [] f h = refl
point_after (c ∷ cs) f h =
    let parts = and_parts _ _ h in
    let digit = digit_range c parts.0 in
    ap (λ b. cond (not b) (1 + position_or_len is_point (cs ++ 46 ∷ f)) 0) (ne_eqb c 46 (λ e. omega arith)) ∙ (let e = point_after cs f parts.1 in omega arith)

before_point : (w f : List ℕ) → all_ascii_digits w ≡ true → before_first is_point (w ++ 46 ∷ f) ≡ w
before_point w f h = ap (λ k. take k (w ++ 46 ∷ f)) (point_after w f h) ∙ take-append_seam w (46 ∷ f)

after_point : (w f : List ℕ) → all_ascii_digits w ≡ true → after_first is_point (w ++ 46 ∷ f) ≡ f
after_point w f h = ap (λ k. drop (k + 1) (w ++ 46 ∷ f)) (point_after w f h) ∙ drop-append-add w (46 ∷ f) 1

abbrev fixed_value : List ℕ → List ℕ → Option ℕ
fixed_value w f = cond (is_numeral w && is_numeral f && leb (length f) 8)
    (Some (digits_value 10 w * 10 ^ 8 + digits_value 10 f * 10 ^ (8 - length f))) None

eight_decimals : (w f : List ℕ) → is_numeral w ≡ true → is_numeral f ≡ true → length f ≡ 8 → fixed_value w f ≡ Some (digits_value 10 w * 10 ^ 8 + digits_value 10 f)
eight_decimals w f whole decimals long =
    ap (λ b. cond b (Some (digits_value 10 w * 10 ^ 8 + digits_value 10 f * 10 ^ (8 - length f))) None)
    (and_from _ _ (and_from _ _ whole decimals) (le-leb (length f) 8 (omega arith))) ∙
    ap (λ k. Some (digits_value 10 w * 10 ^ 8 + digits_value 10 f * 10 ^ (8 - k))) long ∙ ap Some (omega arith)

fixed_back : (n : ℕ) → n < 2 ^ 128 → fixed_of (decimal (n / 10 ^ 8) ++ 46 ∷ eight_digits (n % 10 ^ 8)) ≡ Some n
fixed_back n h =
    let w = decimal (n / 10 ^ 8) in
    let f = eight_digits (n % 10 ^ 8) in
    let whole : n / 10 ^ 8 < 10 ^ 64 = omega arith in
    let rest : n % 10 ^ 8 < 10 ^ 8 = mod_below n (10 ^ 8) (omega arith) in
    ap (λ xs. fixed_value xs (after_first is_point (w ++ 46 ∷ f))) (before_point w f (all_digits _ whole)) ∙
    ap (fixed_value w) (after_point w f (all_digits _ whole)) ∙
    eight_decimals w f (numeral_decimal _ whole) (numeral_eight _ rest) (length-eight _ rest) ∙
    ap (λ k. Some (k * 10 ^ 8 + digits_value 10 f)) (value_decimal _ whole) ∙
    ap (λ k. Some (n / 10 ^ 8 * 10 ^ 8 + k)) (value_eight _ rest) ∙ ap Some (div-add-mod' n (10 ^ 8))

-- by whether the kind has decimals
abbrev text_by : Bool → ℕ → List ℕ
text_by fixed n = cond fixed (decimal (n / 10 ^ 8) ++ 46 ∷ eight_digits (n % 10 ^ 8)) (decimal n)

back_by : (fixed : Bool) (n : ℕ) → n < 2 ^ 128 → cond fixed (fixed_of (text_by fixed n)) (whole_of (text_by fixed n)) ≡ Some n
back_by true n h = fixed_back n h
back_by false n h = whole_of-numeral (decimal n) (numeral_decimal n (omega arith)) ∙ ap Some (value_decimal n (omega arith))

magnitude_back : (kind : Kind) (n : ℕ) → n < 2 ^ 128 → magnitude_of kind (magnitude_text kind n) ≡ Some n
magnitude_back kind n h = back_by (is_fixed kind) n h

-- the first byte is a digit
first_digit : (w rest : List ℕ) → is_numeral w ≡ true → eqb (get_or (w ++ rest) 0 0) 45 ≡ false
first_digit [] rest h = absurd (false≢true h)
first_digit (c ∷ cs) rest h =
    let digits : all_ascii_digits (c ∷ cs) ≡ true = (and_parts _ _ h).1 in
    let range = digit_range c ((and_parts _ _ digits).0) in
    ne_eqb c 45 (λ e. omega arith)

no_minus_by : (fixed : Bool) (n : ℕ) → n < 2 ^ 128 → eqb (get_or (text_by fixed n) 0 0) 45 ≡ false
no_minus_by true n h = first_digit (decimal (n / 10 ^ 8)) (46 ∷ eight_digits (n % 10 ^ 8)) (numeral_decimal _ (omega arith))
no_minus_by false n h =
    ap (λ xs. eqb (get_or xs 0 0) 45) (sym (append-nil (decimal n))) ∙ first_digit (decimal n) [] (numeral_decimal n (omega arith))

kept_small : (kind : Kind) (s : Bool) (m : ℕ) → is_kept kind s m ≡ true → m < 2 ^ 128
kept_small kind true m h =
    let deep = ltb-true (depth kind) (2 ^ 128) (depth_small kind) in
    let within = leb-true m (depth kind) ((and_parts _ _ h).1) in
    omega arith
kept_small kind false m h =
    let high = ltb-true (greatest kind) (2 ^ 128) (greatest_small kind) in
    let within = leb-true m (greatest kind) h in
    omega arith

abbrev text_of : Kind → Bool → ℕ → List ℕ
text_of kind s m = cond s (45 ∷ []) [] ++ magnitude_text kind m

-- a `-` stands first just where it was written
sign_back : (kind : Kind) (s : Bool) (m : ℕ) → is_kept kind s m ≡ true → has_sign kind (text_of kind s m) ≡ s
sign_back kind true m h =
    let parts = and_parts _ _ h in
    let some = ltb-true 0 m parts.0 in
    let within = leb-true m (depth kind) parts.1 in
    and_from _ _ (lt-ltb 0 (depth kind) (omega arith)) refl
sign_back kind false m h = and_right _ _ (no_minus_by (is_fixed kind) m (kept_small kind false m h))

unsigned_back : (kind : Kind) (s : Bool) (m : ℕ) → is_kept kind s m ≡ true → unsigned_part kind (text_of kind s m) ≡ magnitude_text kind m
unsigned_back kind true m h = ap (λ b. cond b (magnitude_text kind m) (text_of kind true m)) (sign_back kind true m h)
unsigned_back kind false m h = ap (λ b. cond b (drop 1 (text_of kind false m)) (text_of kind false m)) (sign_back kind false m h)

kept_range : (kind : Kind) (s : Bool) (m : ℕ) → is_kept kind s m ≡ true → in_range kind s m ≡ true
kept_range kind true m h = (and_parts _ _ h).1
kept_range kind false m h = h

read_text : (kind : Kind) (s : Bool) (m : ℕ) → is_kept kind s m ≡ true → read_of kind (text_of kind s m) ≡ Some (signed s m)
read_text kind s m h =
    let sign = sign_back kind s m h in
    read_of-in kind (text_of kind s m) m (ap (magnitude_of kind) (unsigned_back kind s m h) ∙ magnitude_back kind m (kept_small kind s m h))
    (ap (λ b. in_range kind b m) sign ∙ kept_range kind s m h) ∙ ap (λ b. Some (signed b m)) sign

pub read_back : (n : Num) → read_of n.kind (written n) ≡ Some (value_of n)
unfolding written
read_back n = read_text n.kind n.negative n.magnitude n.kept
