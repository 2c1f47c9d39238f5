-- What `digits_from` reads is the longest numeral.
use Rattle.std.proofs.Common.{◌≡◌, ℕ, suc, ◌-◌, ◌<◌, ◌≤◌, ◌==◌, Bool, true, false, if◌then◌else◌, List, [], ◌∷◌, ◌++◌, length, refl, sym, ap, ◌∙◌, arith}
use Rattle.std.specs.Char.{digit_value, is_digit}
use Rattle.std.proofs.lemmas.Bool.Decides.{Decides-ltb, nat_tests}
use Rattle.cad_grammar.specs.Lexes.{is_underscore, Front, Numeral}
use Rattle.cad_grammar.specs.Lexes as l
use Rattle.cad_lex.specs.Code.Reading.{digits_from, with_digit, begins_with_digit}
use Rattle.cad_lex.proofs.Numbers.{AreDecimal}
use Rattle.cad_lex.proofs.Seams.{Seam, seam_first, seam_later}

pub front_further : {test : ℕ → Bool} {b : ℕ} {text some rest : List ℕ} → Front test text some (b ∷ rest) → test b ≡ true → Front test text (some ++ b ∷ []) rest
front_further l.none e = l.more e l.none
front_further (l.more t d) e = l.more t (front_further d e)

-- nothing more was read, or underscores and a numeral
data Ahead (radix most : ℕ) (end : List ℕ) : List ℕ × List ℕ → Type 0 where
  no_more : Ahead radix most end ([], end)
  numeral : {underscores after digits rest : List ℕ} → Front is_underscore end underscores after → Numeral radix after digits rest → length digits ≤ most → Ahead radix most end (digits, rest)

abbrev IsFirst : ℕ → ℕ → ℕ → List ℕ → List ℕ × List ℕ → Type 0
IsFirst radix most b bytes x = Numeral radix (b ∷ bytes) (b ∷ x.0) x.1 × (suc (length x.0) ≤ most)

first_is : (radix most b : ℕ) (bytes : List ℕ) (x : List ℕ × List ℕ) → 1 ≤ most → is_digit b radix ≡ true → Ahead radix (most - 1) bytes x → IsFirst radix most b bytes x
first_is radix most b bytes x some e no_more = (l.last e, omega (arith, some))
first_is radix most b bytes x some e (numeral g d h) = (l.more_digits e g d, omega (arith, h, some))

with_first : (radix most b : ℕ) (end underscores bytes : List ℕ) (x : List ℕ × List ℕ) → Front is_underscore end underscores (b ∷ bytes) → IsFirst radix most b bytes x → Ahead radix most end (with_digit b x)
with_first radix most b end underscores bytes x f w = numeral f w.0 w.1

some_left : (most : ℕ) → (most == 0) ≡ false → 1 ≤ most
some_left most e = grind (arith, nat_tests)

ahead_is : (radix most : ℕ) (end underscores text : List ℕ) → Front is_underscore end underscores text → Ahead radix most end (digits_from radix most end text)
unfolding digits_from
ahead_is radix most end underscores [] f = no_more
ahead_is radix most end underscores (b ∷ bytes) f =
    by_tests (most == 0) refl (is_digit b radix) refl (is_underscore b) refl (ahead_is radix (most - 1) bytes [] bytes l.none) (λ e. ahead_is radix most end (underscores ++ b ∷ []) bytes (front_further f e))
  where
    by_tests : (over : Bool) → (most == 0) ≡ over → (digit : Bool) → is_digit b radix ≡ digit → (underscore : Bool) → is_underscore b ≡ underscore
        → Ahead radix (most - 1) bytes (digits_from radix (most - 1) bytes bytes)
        → (is_underscore b ≡ true → Ahead radix most end (digits_from radix most end bytes))
        → Ahead radix most end (if over then ([], end) else (if digit then with_digit b (digits_from radix (most - 1) bytes bytes) else (if underscore then digits_from radix most end bytes else ([], end))))
    by_tests true o digit d underscore u later passed = no_more
    by_tests false o true d underscore u later passed = with_first radix most b end underscores bytes _ f (first_is radix most b bytes _ (some_left most o) d later)
    by_tests false o false d true u later passed = passed u
    by_tests false o false d false u later passed = no_more

none_over : (most : ℕ) → 1 ≤ most → (most == 0) ≡ false
none_over most h = grind (arith, nat_tests)

digits_goes : (radix most : ℕ) (end : List ℕ) (b : ℕ) (bytes : List ℕ) → 1 ≤ most → is_digit b radix ≡ true → digits_from radix most end (b ∷ bytes) ≡ with_digit b (digits_from radix (most - 1) bytes bytes)
unfolding digits_from
digits_goes radix most end b bytes some e = rw (none_over most some, e)

-- what is read where a digit begins
pub digits_are : (radix most b : ℕ) (bytes : List ℕ) → 1 ≤ most → is_digit b radix ≡ true
    → Numeral radix (b ∷ bytes) (digits_from radix most (b ∷ bytes) (b ∷ bytes)).0 (digits_from radix most (b ∷ bytes) (b ∷ bytes)).1 × (length (digits_from radix most (b ∷ bytes) (b ∷ bytes)).0 ≤ most)
digits_are radix most b bytes some e =
    rw (digits_goes radix most (b ∷ bytes) b bytes some e) (first_is radix most b bytes _ some e (ahead_is radix (most - 1) bytes [] bytes l.none))

-- facts on numerals

front_within : {test : ℕ → Bool} {text some rest : List ℕ} → Front test text some rest → length rest ≤ length text
front_within l.none = omega arith
front_within (l.more e d) = omega (arith, front_within d)

pub numeral_shorter : {radix : ℕ} {text digits rest : List ℕ} → Numeral radix text digits rest → length rest < length text
numeral_shorter (l.last e) = omega arith
numeral_shorter (l.more_digits e f d) = omega (arith, front_within f, numeral_shorter d)

pub digits_within : {radix : ℕ} {text digits rest : List ℕ} → Numeral radix text digits rest → length digits ≤ length text
digits_within (l.last e) = omega arith
digits_within (l.more_digits e f d) = omega (arith, front_within f, digits_within d)

pub numeral_some : {radix : ℕ} {text digits rest : List ℕ} → Numeral radix text digits rest → 1 ≤ length digits
numeral_some (l.last e) = omega arith
numeral_some (l.more_digits e f d) = omega arith

pub numeral_begins : {radix : ℕ} {text digits rest : List ℕ} → Numeral radix text digits rest → begins_with_digit radix text ≡ true
numeral_begins (l.last e) = e
numeral_begins (l.more_digits e f d) = e

decimal_digit : (b : ℕ) → is_digit b 10 ≡ true → digit_value b < 10
decimal_digit b e = (Decides-ltb _ _).0 e

pub are_decimal : {text digits rest : List ℕ} → Numeral 10 text digits rest → AreDecimal digits
are_decimal (l.last {b} e) = (decimal_digit b e, tt)
are_decimal (l.more_digits {b} e f d) = (decimal_digit b e, are_decimal d)

digit_is_low : (radix b : ℕ) → radix ≤ 36 → is_digit b radix ≡ true → b < 128
digit_is_low radix b small e = grind (arith, nat_tests)

underscore_is_low : (b : ℕ) → is_underscore b ≡ true → b < 128
underscore_is_low b e = grind (arith, nat_tests)

pub front_seam : {test : ℕ → Bool} {text some rest after : List ℕ} → Front test text some rest → Seam rest after → Seam text after
front_seam l.none s = s
front_seam (l.more e d) s = seam_later (front_seam d s)

pub numeral_seam : {radix : ℕ} {text digits rest : List ℕ} → radix ≤ 36 → Numeral radix text digits rest → Seam text rest
numeral_seam {radix} small (l.last {b} {rest} e) = seam_first b rest (digit_is_low radix b small e)
numeral_seam small (l.more_digits e f d) = seam_later (front_seam f (numeral_seam small d))

-- and the longest

abbrev pub Longest : List ℕ × List ℕ → List ℕ → List ℕ → Type 0
Longest x digits rest = (length x.1 ≤ length rest) × (length rest ≤ length x.1 → x ≡ (digits, rest))

underscore_is_none : (radix b : ℕ) → radix ≤ 36 → is_underscore b ≡ true → is_digit b radix ≡ false
underscore_is_none radix b small e = grind (arith, nat_tests)

passes : (radix most : ℕ) (end : List ℕ) {text underscores after : List ℕ} → radix ≤ 36 → 1 ≤ most → Front is_underscore text underscores after → digits_from radix most end text ≡ digits_from radix most end after
unfolding digits_from
passes radix most end small some l.none = refl
passes radix most end small some (l.more {b} e d) = rw (none_over most some, underscore_is_none radix b small e, e) (passes radix most end small some d)

last_longest : (radix most b : ℕ) (rest : List ℕ) (x : List ℕ × List ℕ) → Ahead radix most rest x → Longest (with_digit b x) (b ∷ []) rest
last_longest radix most b rest x no_more = (omega arith, λ le. refl)
last_longest radix most b rest x (numeral f d h) = (omega (arith, front_within f, numeral_shorter d), λ le. absurd (omega (arith, front_within f, numeral_shorter d, le)))

with_longest : (b : ℕ) (x : List ℕ × List ℕ) (digits rest : List ℕ) → Longest x digits rest → Longest (with_digit b x) (b ∷ digits) rest
with_longest b x digits rest w = (w.0, λ le. ap (with_digit b) (w.1 le))

pub digits_reach : {radix : ℕ} {text digits rest : List ℕ} → radix ≤ 36 → Numeral radix text digits rest → (most : ℕ) → length digits ≤ most → (end : List ℕ) → Longest (digits_from radix most end text) digits rest
digits_reach {radix} small (l.last {b} {rest} e) most h end =
    rw (digits_goes radix most end b rest (omega (arith, h)) e) (last_longest radix (most - 1) b rest _ (ahead_is radix (most - 1) rest [] rest l.none))
digits_reach {radix} small (l.more_digits {b} {text} {underscores} {after} {digits} {rest} e f d) most h end =
    let more : 1 ≤ most - 1 = omega (arith, h, numeral_some d) in
    rw (digits_goes radix most end b text (omega (arith, h)) e, passes radix (most - 1) text small more f)
    (with_longest b _ digits rest (digits_reach small d (most - 1) (omega (arith, h)) text))

-- a numeral before what can't go on is read exactly

stops_there : (radix most c : ℕ) (rest : List ℕ) → is_digit c radix ≡ false → is_underscore c ≡ false → digits_from radix most (c ∷ rest) (c ∷ rest) ≡ ([], c ∷ rest)
unfolding digits_from
stops_there radix most c rest e f = by_test (most == 0)
  where
    by_test : (v : Bool)
        → (if v then ([], c ∷ rest)
        else (if is_digit c radix then with_digit c (digits_from radix (most - 1) rest rest) else (if is_underscore c then digits_from radix most (c ∷ rest) rest else ([], c ∷ rest))))
        ≡ ([], c ∷ rest)
    by_test true = refl
    by_test false = rw (e, f) refl

pub digits_exact : {radix : ℕ} {text digits rest : List ℕ} → radix ≤ 36 → Numeral radix text digits rest → (c : ℕ) (after : List ℕ) → rest ≡ c ∷ after → is_digit c radix ≡ false → is_underscore c ≡ false
    → (most : ℕ) → length digits ≤ most → (end : List ℕ) → digits_from radix most end text ≡ (digits, rest)
digits_exact {radix} small (l.last {b} {rest} e) c after q no_digit no_underscore most h end =
    digits_goes radix most end b rest (omega (arith, h)) e
    ∙ ap (λ r. with_digit b (digits_from radix (most - 1) r r)) q ∙ ap (with_digit b) (stops_there radix (most - 1) c after no_digit no_underscore) ∙ ap (λ r. (b ∷ [], r)) (sym q)
digits_exact {radix} small (l.more_digits {b} {text} {underscores} {after = inner} {digits} {rest} e f d) c after q no_digit no_underscore most h end =
    let more : 1 ≤ most - 1 = omega (arith, h, numeral_some d) in
    digits_goes radix most end b text (omega (arith, h)) e ∙ ap (with_digit b) (passes radix (most - 1) text small more f)
    ∙ ap (with_digit b) (digits_exact small d c after q no_digit no_underscore (most - 1) (omega (arith, h)) text)
