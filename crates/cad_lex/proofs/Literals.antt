-- What `number_shape` reads is the longest shape that begins with a digit.
use Rattle.std.proofs.Common.{◌≡◌, ℕ, ◌<◌, ◌≤◌, ◌==◌, ◌&&◌, Bool, true, false, if◌then◌else◌, List, [], ◌∷◌, length, Option, Some, None, IfSome, refl, sym, ap, ◌∙◌, subst, arith, eqb-true}
use Rattle.std.proofs.lemmas.Bool.{false≢true}
use Rattle.std.proofs.lemmas.Bool.Decides.{nat_tests}
use Rattle.cad_grammar.specs.Lexes.{is_underscore, radix_of, Front, Numeral, Shape, Whole, Fixed, Shaped}
use Rattle.cad_grammar.specs.Lexes as l
use Rattle.cad_lex.specs.Code.Reading.{is_decimal, digits_from, begins_with_digit, with_radix, based, behind_point, with_shape, decimal_shape, decimals_of, number_by, number_shape}
use Rattle.cad_lex.proofs.Numerals.{Longest, digits_are, digits_reach, digits_exact, numeral_begins, numeral_shorter, digits_within}

radix_is_small : (b radix : ℕ) → radix_of b ≡ Some radix → radix ≤ 16
radix_is_small b radix e = grind (arith, nat_tests)

letter_is_no_digit : (b radix : ℕ) → radix_of b ≡ Some radix → is_decimal b ≡ false
letter_is_no_digit b radix e = grind (arith, nat_tests)

letter_is_no_underscore : (b radix : ℕ) → radix_of b ≡ Some radix → is_underscore b ≡ false
letter_is_no_underscore b radix e = grind (arith, nat_tests)

letter_is_no_point : (b radix : ℕ) → radix_of b ≡ Some radix → b ≡ 46 → ⊥
letter_is_no_point b radix e f = grind (arith, nat_tests)

-- `0b`, `0o` and `0x`

pub record Based (text : List ℕ) (radix : ℕ) (after : List ℕ) : Type 0 where
  pub letter : ℕ
  pub joined : text ≡ 48 ∷ letter ∷ after
  pub tells : radix_of letter ≡ Some radix
  pub begins : begins_with_digit radix after ≡ true

abbrev IsBased : List ℕ → Option (ℕ × List ℕ) → Type 0
IsBased text o = IfSome o (λ x. Based text x.0 x.1)

based_is : (text : List ℕ) → IsBased text (based text)
unfolding based
based_is [] = tt
based_is (a ∷ []) = tt
based_is (a ∷ b ∷ text) = by_zero (a == 48) refl
  where
    by_begin : (radix : ℕ) → a ≡ 48 → radix_of b ≡ Some radix → (v : Bool) → begins_with_digit radix text ≡ v → IsBased (a ∷ b ∷ text) (if v then Some (radix, text) else None)
    by_begin radix e f true g = record { letter = b; joined = ap (λ c. c ∷ b ∷ text) e; tells = f; begins = g }
    by_begin radix e f false g = tt

    by_radix : (o : Option ℕ) → a ≡ 48 → radix_of b ≡ o → IsBased (a ∷ b ∷ text) (with_radix o text)
    by_radix None e f = tt
    by_radix (Some radix) e f = by_begin radix e f (begins_with_digit radix text) refl

    by_zero : (v : Bool) → (a == 48) ≡ v → IsBased (a ∷ b ∷ text) (if v then with_radix (radix_of b) text else None)
    by_zero true e = by_radix (radix_of b) (eqb-true _ _ e) refl
    by_zero false e = tt

based_found : (letter radix : ℕ) (after : List ℕ) → radix_of letter ≡ Some radix → begins_with_digit radix after ≡ true → based (48 ∷ letter ∷ after) ≡ Some (radix, after)
unfolding based
based_found letter radix after e f = ap (λ o. with_radix o after) e ∙ ap (λ v. if v then Some (radix, after) else None) f

-- the point

point_is : (text : List ℕ) → IfSome (behind_point text) (λ after. (text ≡ 46 ∷ after) × (begins_with_digit 10 after ≡ true))
unfolding behind_point
point_is [] = tt
point_is (b ∷ text) = by_test (b == 46) refl (begins_with_digit 10 text) refl
  where
    by_test : (v : Bool) → (b == 46) ≡ v → (w : Bool) → begins_with_digit 10 text ≡ w → IfSome (if v && w then Some text else None) (λ after. (b ∷ text ≡ 46 ∷ after) × (begins_with_digit 10 after ≡ true))
    by_test true e true f = (ap (λ c. c ∷ text) (eqb-true _ _ e), f)
    by_test true e false f = tt
    by_test false e w f = tt

point_found : (after : List ℕ) → begins_with_digit 10 after ≡ true → behind_point (46 ∷ after) ≡ Some after
unfolding behind_point
point_found after e = rw e refl

-- what is read has its shape

abbrev Read : ℕ → ℕ → List ℕ → List ℕ × List ℕ → Type 0
Read radix most text x = Numeral radix text x.0 x.1 × (length x.0 ≤ most)

numeral_is : (radix most : ℕ) (text : List ℕ) → 1 ≤ most → begins_with_digit radix text ≡ true → Read radix most text (digits_from radix most text text)
numeral_is radix most [] some e = absurd (false≢true e)
numeral_is radix most (b ∷ bytes) some e = digits_are radix most b bytes some e

some_text : (radix : ℕ) (text : List ℕ) → begins_with_digit radix text ≡ true → 1 ≤ length text
some_text radix [] e = absurd (false≢true e)
some_text radix (b ∷ text) e = omega arith

decimals_shaped : (text : List ℕ) (x : List ℕ × List ℕ) → Numeral 10 text x.0 x.1 → Shaped text (decimals_of x).0 (decimals_of x).1
decimals_shaped text x d = by_point (behind_point x.1) (point_is x.1)
  where
    by_point : (o : Option (List ℕ)) → IfSome o (λ after. (x.1 ≡ 46 ∷ after) × (begins_with_digit 10 after ≡ true)) → Shaped text (decimal_shape x o).0 (decimal_shape x o).1
    by_point None h = l.decimal d
    by_point (Some after) h =
        let y = numeral_is 10 8 after (omega arith) h.1 in
        l.pointed (subst (Numeral 10 text x.0) h.0 d) y.0 y.1

pub number_shaped : (text : List ℕ) → begins_with_digit 10 text ≡ true → Shaped text (number_shape text).0 (number_shape text).1
unfolding number_shape
number_shaped text e = by_base (based text) (based_is text)
  where
    by_base : (o : Option (ℕ × List ℕ)) → IsBased text o → Shaped text (number_by text o).0 (number_by text o).1
    by_base None h = decimals_shaped text _ (numeral_is 10 (length text) text (some_text 10 text e) e).0
    by_base (Some x) h =
        let d = (numeral_is x.0 (length x.1) x.1 (some_text x.0 x.1 h.begins) h.begins).0 in
        subst (λ t. Shaped t (number_by text (Some x)).0 (number_by text (Some x)).1) (sym h.joined) (l.based h.tells d)

-- and no other is longer

abbrev pub Reached : Shape × List ℕ → Shape → List ℕ → Type 0
Reached x s rest = (length x.1 ≤ length rest) × (length rest ≤ length x.1 → x ≡ (s, rest))

-- where a base is told, the decimal digits end before its letter
base_ends : {text digits rest : List ℕ} → Numeral 10 text digits rest → (letter radix : ℕ) (after : List ℕ) → text ≡ 48 ∷ letter ∷ after → radix_of letter ≡ Some radix → rest ≡ letter ∷ after
base_ends {text} {digits} {rest} d letter radix after e f =
    let n : Numeral 10 (48 ∷ letter ∷ after) digits rest = subst (λ t. Numeral 10 t digits rest) e d in
    ends n letter after refl (letter_is_no_digit letter radix f) (letter_is_no_underscore letter radix f)
  where
    goes : {text underscores after digits rest : List ℕ} → Front is_underscore text underscores after → Numeral 10 after digits rest → (c : ℕ) (more : List ℕ) → text ≡ c ∷ more
        → is_decimal c ≡ false → is_underscore c ≡ false → ⊥
    goes l.none d c more e f g = false≢true (sym f ∙ sym (ap (begins_with_digit 10) e) ∙ numeral_begins d)
    goes (l.more {b} {text} t d) n c more e f g = let same : b ≡ c = cc in false≢true (sym g ∙ ap is_underscore (sym same) ∙ t)

    ends : {text digits rest : List ℕ} → Numeral 10 text digits rest → (c : ℕ) (more : List ℕ) {b : ℕ} → text ≡ b ∷ c ∷ more → is_decimal c ≡ false → is_underscore c ≡ false → rest ≡ c ∷ more
    ends (l.last {b} {rest} t) c more e f g = cc
    ends (l.more_digits {b} {text} t d n) c more e f g = let same : text ≡ c ∷ more = cc in absurd (goes d n c more same f g)

based_longer : (text after : List ℕ) (radix : ℕ) → Based text radix after → (digits rest : List ℕ) → Numeral 10 text digits rest → length (digits_from radix (length after) after after).1 < length rest
based_longer text after radix h digits rest d =
    let e : rest ≡ h.letter ∷ after = base_ends d h.letter radix after h.joined h.tells in
    let n = (numeral_is radix (length after) after (some_text radix after h.begins) h.begins).0 in
    omega (arith, ap length e, numeral_shorter n)

decimals_reach : (x : List ℕ × List ℕ) (digits rest : List ℕ) → Longest x digits rest → Reached (decimals_of x) (Whole 10 digits) rest
decimals_reach x digits rest w = by_point (behind_point x.1) (point_is x.1)
  where
    by_point : (o : Option (List ℕ)) → IfSome o (λ after. (x.1 ≡ 46 ∷ after) × (begins_with_digit 10 after ≡ true)) → Reached (decimal_shape x o) (Whole 10 digits) rest
    by_point None h = (w.0, λ le. ap (with_shape (Whole 10)) (w.1 le))
    by_point (Some after) h =
        let y = numeral_shorter (numeral_is 10 8 after (omega arith) h.1).0 in
        (omega (arith, w.0, ap length h.0, y), λ le. absurd (omega (arith, w.0, ap length h.0, y, le)))

pub decimal_reached : {text digits rest : List ℕ} → Numeral 10 text digits rest → Reached (number_shape text) (Whole 10 digits) rest
unfolding number_shape
decimal_reached {text} {digits} {rest} d = by_base (based text) (based_is text)
  where
    by_base : (o : Option (ℕ × List ℕ)) → IsBased text o → Reached (number_by text o) (Whole 10 digits) rest
    by_base None h = decimals_reach _ digits rest (digits_reach (omega arith) d (length text) (digits_within d) text)
    by_base (Some x) h =
        let less = based_longer text x.1 x.0 h digits rest d in
        (omega (arith, less), λ le. absurd (omega (arith, less, le)))

pub based_reached : (letter radix : ℕ) {text digits rest : List ℕ} → radix_of letter ≡ Some radix → Numeral radix text digits rest → Reached (number_shape (48 ∷ letter ∷ text)) (Whole radix digits) rest
unfolding number_shape
based_reached letter radix {text} {digits} {rest} e d =
    let w = digits_reach (omega (arith, radix_is_small letter radix e)) d (length text) (digits_within d) text in
    rw (based_found letter radix text e (numeral_begins d)) (w.0, λ le. ap (with_shape (Whole radix)) (w.1 le))

no_base : (text digits after : List ℕ) → Numeral 10 text digits (46 ∷ after) → based text ≡ None
no_base text digits after d = by_base (based text) (based_is text)
  where
    by_base : (o : Option (ℕ × List ℕ)) → IsBased text o → o ≡ None
    by_base None h = refl
    by_base (Some x) h =
        let e : 46 ∷ after ≡ h.letter ∷ x.1 = base_ends d h.letter x.0 x.1 h.joined h.tells in
        let same : h.letter ≡ 46 = cc in
        absurd (letter_is_no_point h.letter x.0 h.tells same)

pub pointed_reached : {text digits after decimals rest : List ℕ} → Numeral 10 text digits (46 ∷ after) → Numeral 10 after decimals rest → length decimals ≤ 8 → Reached (number_shape text) (Fixed digits decimals) rest
unfolding number_shape
pointed_reached {text} {digits} {after} {decimals} {rest} d f few =
    let w = digits_reach (omega arith) f 8 few after in
    let whole = digits_exact (omega arith) d 46 after refl refl refl (length text) (digits_within d) text in
    rw (no_base text digits after d, whole, point_found after (numeral_begins f)) (w.0, λ le. ap (with_shape (Fixed digits)) (w.1 le))
