-- Hexadecimal digits.
use Rattle.std.proofs.Common.{◌≡◌, ℕ, zero, suc, ◌+◌, ◌-◌, ◌*◌, ◌/◌, ◌%◌, ◌^◌, ◌<◌, ◌≤◌, true, List, [], ◌∷◌, ◌++◌, length, get_or, take, refl, arith, append_assoc, append-nil, add-one, sub-one, rules, ◌≢◌, length-append, Some}
use Rattle.std.specs.Prelude.{encode_utf8}
use Rattle.std.proofs.Math.Nat.{pow-suc, pow-le-pow_right}
use Rattle.std.proofs.lemmas.Int.Digits.{digits_value_more, digits_value_push}
use Rattle.std.proofs.lemmas.List.Folds.{list_all_more, list_all-append}
use Rattle.std.proofs.lemmas.Str.{encode_ascii}
use Rattle.std.proofs.lemmas.Bool.Decides.{nat_tests}
use Rattle.std.specs.Char.{digit_value, digit_char, is_digit}
use Rattle.std.specs.List.{list_all}
use Rattle.std.specs.Str.Parse.{digits_value}
use Rattle.cad_syntax.specs.Addresses.{hex_digits, address_of, address_text}

-- one more digit
pub small_more : (n i d : ℕ) → n < 16 ^ i → d < 16 → 16 * n + d < 16 ^ (i + 1)
small_more n i d small digit = rw (add-one, pow-suc) (omega arith)

-- fewer than 16 digits leave room for one more
pub fits_more : (n i d : ℕ) → n < 16 ^ i → i < 16 → d < 16 → 16 * n + d < 2 ^ 64
fits_more n i d small few digit =
    let low : 0 < 16 = omega arith in
    let high : i ≤ 15 = omega arith in
    let bound : 16 ^ i ≤ 16 ^ 15 = pow-le-pow_right low high in
    omega (arith, bound)

pub hex_digits_none : (n : ℕ) → hex_digits zero n ≡ []
unfolding hex_digits
hex_digits_none n = refl

pub hex_digits_more : (k n : ℕ) → 0 < k → hex_digits k n ≡ hex_digits (k - 1) (n / 16) ++ digit_char (n % 16) ∷ []
unfolding hex_digits
hex_digits_more zero n h = absurd (omega arith)
hex_digits_more (suc k) n h = rw sub-one refl

-- one more digit is read
pub all_digits_more : (ds : List ℕ) (i : ℕ) → i < length ds → list_all (λ c. is_digit c 16) (take i ds) ≡ true → digit_value (get_or ds i 0) < 16 → list_all (λ c. is_digit c 16) (take (i + 1) ds) ≡ true
all_digits_more ds i below before here = rw (list_all_more (λ c. is_digit c 16) ds i 0 below, before) (search (rules, nat_tests))

pub number_more : (ds : List ℕ) (i n d : ℕ) → i < length ds → n ≡ digits_value 16 (take i ds) → d ≡ digit_value (get_or ds i 0) → 16 * n + d ≡ digits_value 16 (take (i + 1) ds)
number_more ds i n d below before here = rw (digits_value_more 16 ds i below, before, here) (omega arith)

-- a hexadecimal digit is one byte
digit_byte : (n : ℕ) → encode_utf8 (digit_char (n % 16)) ≡ digit_char (n % 16) ∷ []
digit_byte n = encode_ascii (digit_char (n % 16)) (grind (arith, nat_tests))

-- no digits are written
pub hex_none : (text : List ℕ) (k n : ℕ) → k ≡ 0 → text ≡ text ++ hex_digits k n
hex_none text k n none = rw (none, hex_digits_none, append-nil) refl

-- the higher digits are written, and then the last one
pub hex_pushed : (text middle new : List ℕ) (code : ℕ) (k n : ℕ) → k ≢ 0 → middle ≡ text ++ hex_digits (k - 1) (n / 16) → code ≡ digit_char (n % 16) → new ≡ middle ++ encode_utf8 code → new ≡ text ++ hex_digits k n
hex_pushed text middle new code k n some e f g =
    let positive : 0 < k = omega arith in
    rw (g, e, f, digit_byte n, hex_digits_more k n positive, append_assoc) refl

digit_value_char : (d : ℕ) → d < 16 → digit_value (digit_char d) ≡ d
digit_value_char d small = grind (arith, nat_tests)

pub length_hex_digits : (k n : ℕ) → length (hex_digits k n) ≡ k
unfolding hex_digits
length_hex_digits zero n = refl
length_hex_digits (suc k) n = rw (length-append, length_hex_digits k (n / 16)) (omega arith)

pub all_hex_digits : (k n : ℕ) → list_all (λ c. is_digit c 16) (hex_digits k n) ≡ true
unfolding hex_digits
all_hex_digits zero n = refl
all_hex_digits (suc k) n =
    let small : n % 16 < 16 = omega arith in
    rw (list_all-append (λ c. is_digit c 16) (hex_digits k (n / 16)) (digit_char (n % 16) ∷ []), all_hex_digits k (n / 16), digit_value_char (n % 16) small) (search (rules, nat_tests))

pub value_hex_digits : (k n : ℕ) → n < 16 ^ k → digits_value 16 (hex_digits k n) ≡ n
unfolding hex_digits
value_hex_digits zero n small = omega arith
value_hex_digits (suc k) n small =
    let last : n % 16 < 16 = omega arith in
    let bound : n < 16 ^ k * 16 = rw pow-suc at small in
    let front : n / 16 < 16 ^ k = omega arith in
    rw (digits_value_push 16 (hex_digits k (n / 16)) (digit_char (n % 16)), value_hex_digits k (n / 16) front, digit_value_char (n % 16) last) (omega arith)

-- the text of an address writes that address
pub address_of-address_text : (n : ℕ) → n < 2 ^ 64 → address_of (address_text n) ≡ Some n
address_of-address_text n small =
    rw (length_hex_digits 16 n, all_hex_digits 16 n, value_hex_digits 16 n small) refl
