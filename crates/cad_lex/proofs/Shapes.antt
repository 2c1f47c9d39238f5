-- `shape` is the longest shape at the front, and `token` the token.
use Rattle.std.proofs.Common.{◌≡◌, ℕ, ◌≤◌, ◌==◌, Bool, true, false, if◌then◌else◌, List, [], ◌∷◌, ◌++◌, length, codes, bytes_eq, Option, Some, None, IfSome, option_map, refl, sym, ap, ◌∙◌, arith, subst, eqb-true}
use Rattle.std.proofs.lemmas.Bool.Decides.{nat_tests}
use Rattle.std.proofs.lemmas.Slice.Eq.{bytes_eq-Decides}
use Rattle.cad_grammar.specs.declared.token.Sign.{Sign}
use Rattle.cad_grammar.specs.declared.token.Sign.TheVariants as s
use Rattle.cad_syntax.specs.Names.{is_first_of_name, is_part_of_name}
use Rattle.cad_grammar.specs.Lexes.{is_white_space, begins_with_letter, opens_line, opens_block, number, scaled, sign_spelling, Front, Numeral, Quoted, Gap, Shape, Word, Whole, Fixed, Quotation, Mark, Shaped, Judged, Begins}
use Rattle.cad_grammar.specs.Lexes as l
use Rattle.cad_lex.specs.Code.Reading.{front, behind, is_decimal, begins_with_digit, cast, word_shape, number_shape, quoted, sign, single, longer_by, longer_by_two, behind_less, shape}
use Rattle.cad_lex.proofs.Runs.{front_goes, behind_goes, front_of, front_and_behind, behind_shortest, longest_front}
use Rattle.cad_lex.proofs.Numerals.{numeral_begins}
use Rattle.cad_lex.proofs.Quotes.{quoted_is, quoted_found}
use Rattle.cad_lex.proofs.Literals.{Reached, number_shaped, decimal_reached, based_reached, pointed_reached}
use Rattle.cad_lex.proofs.Signs.{AreSpelled, Short, sign_is, longer_short, two_short, less_short}

start_is_part : (b : ℕ) → is_first_of_name b ≡ true → is_part_of_name b ≡ true
start_is_part b h = grind (arith, nat_tests)

digit_is_no_start : (b : ℕ) → is_decimal b ≡ true → is_first_of_name b ≡ false
digit_is_no_start b h = grind (arith, nat_tests)

-- what `shape` gives for each first byte

shape_word : (b : ℕ) (bytes : List ℕ) → is_first_of_name b ≡ true → shape (b ∷ bytes) ≡ Some (word_shape (b ∷ front is_part_of_name bytes) (behind is_part_of_name bytes))
unfolding shape
shape_word b bytes e =
    let part = start_is_part b e in
    rw e (λ i. Some (word_shape (front_goes is_part_of_name b bytes part i) (behind_goes is_part_of_name b bytes part i)))

shape_number : (b : ℕ) (bytes : List ℕ) → is_decimal b ≡ true → shape (b ∷ bytes) ≡ Some (number_shape (b ∷ bytes))
unfolding shape
shape_number b bytes e = rw (digit_is_no_start b e, e) refl

shape_quotation : (bytes : List ℕ) → shape (34 ∷ bytes) ≡ option_map (λ x. (Quotation x.0, x.1)) (quoted (length bytes) bytes)
unfolding shape
shape_quotation bytes = refl

-- what is found has its shape

abbrev IsShaped : List ℕ → Option (Shape × List ℕ) → Type 0
IsShaped text o = IfSome o (λ x. Shaped text x.0 x.1)

abbrev HasShape : List ℕ → Shape × List ℕ → Type 0
HasShape text x = Shaped text x.0 x.1

cast_shaped : (rest : List ℕ) → Shaped (97 ∷ 115 ∷ rest) (cast rest).0 (cast rest).1
unfolding cast
cast_shaped [] = l.word refl (l.more refl l.none)
cast_shaped (b ∷ rest) = by_tests (b == 63) refl (b == 33) refl
  where
    by_tests : (u : Bool) → (b == 63) ≡ u → (v : Bool) → (b == 33) ≡ v
        → HasShape (97 ∷ 115 ∷ b ∷ rest) (if u then (Mark s.AsOptional, rest) else (if v then (Mark s.AsForce, rest) else (Word (codes "as"), b ∷ rest)))
    by_tests true e v f = l.mark (ap (λ c. 97 ∷ 115 ∷ c ∷ rest) (eqb-true _ _ e))
    by_tests false e true f = l.mark (ap (λ c. 97 ∷ 115 ∷ c ∷ rest) (eqb-true _ _ f))
    by_tests false e false f = l.word refl (l.more refl l.none)

word_shaped : (text w rest : List ℕ) → text ≡ w ++ rest → Shaped text (Word w) rest → Shaped text (word_shape w rest).0 (word_shape w rest).1
unfolding word_shape
word_shaped text w rest e d = by_test (bytes_eq w (codes "as")) refl
  where
    by_test : (v : Bool) → bytes_eq w (codes "as") ≡ v → HasShape text (if v then cast rest else (Word w, rest))
    by_test true f =
        let same : text ≡ 97 ∷ 115 ∷ rest = e ∙ ap (λ x. x ++ rest) ((bytes_eq-Decides w (codes "as")).0 f) in
        subst (λ t. Shaped t (cast rest).0 (cast rest).1) (sym same) (cast_shaped rest)
    by_test false f = d

quotation_shaped : (bytes : List ℕ) (o : Option (List ℕ × List ℕ)) → IfSome o (λ x. Quoted bytes x.0 x.1) → IsShaped (34 ∷ bytes) (option_map (λ x. (Quotation x.0, x.1)) o)
quotation_shaped bytes None h = tt
quotation_shaped bytes (Some x) h = l.quotation h

sign_shaped : (text : List ℕ) (o : Option (Sign × List ℕ)) → AreSpelled text o → IsShaped text (option_map (λ x. (Mark x.0, x.1)) o)
sign_shaped text None h = tt
sign_shaped text (Some x) h = l.mark h

shaped_by : (b : ℕ) (bytes : List ℕ) (word digit quote : Bool) → is_first_of_name b ≡ word → is_decimal b ≡ digit → (b == 34) ≡ quote → IsShaped (b ∷ bytes) (shape (b ∷ bytes))
unfolding shape
shaped_by b bytes true digit quote n e q =
    subst (IsShaped (b ∷ bytes)) (sym (shape_word b bytes n))
    (word_shaped (b ∷ bytes) (b ∷ front is_part_of_name bytes) (behind is_part_of_name bytes) (ap (λ t. b ∷ t) (front_and_behind is_part_of_name bytes)) (l.word n (front_of is_part_of_name bytes)))
shaped_by b bytes false true quote n e q = subst (IsShaped (b ∷ bytes)) (sym (shape_number b bytes e)) (number_shaped (b ∷ bytes) e)
shaped_by b bytes false false true n e q =
    let same : b ≡ 34 = eqb-true _ _ q in
    rw (n, e, q) (subst (λ c. IsShaped (c ∷ bytes) (option_map (λ x. (Quotation x.0, x.1)) (quoted (length bytes) bytes))) (sym same) (quotation_shaped bytes _ (quoted_is (length bytes) bytes)))
shaped_by b bytes false false false n e q = rw (n, e, q) (sign_shaped (b ∷ bytes) (sign b bytes) (sign_is b bytes))

nothing_is : IsShaped [] (shape [])
unfolding shape
nothing_is = tt

pub shape_is : (text : List ℕ) → IfSome (shape text) (λ x. Shaped text x.0 x.1)
shape_is [] = nothing_is
shape_is (b ∷ bytes) = shaped_by b bytes (is_first_of_name b) (is_decimal b) (b == 34) refl refl refl

-- and no other is longer

abbrev pub Reaches : List ℕ → Shape → List ℕ → Type 0
Reaches text s rest = (x : Shape × List ℕ) × (shape text ≡ Some x) × (length x.1 ≤ length rest) × (length rest ≤ length x.1 → x ≡ (s, rest))

exactly : (text : List ℕ) (s : Shape) (rest : List ℕ) → shape text ≡ Some (s, rest) → Reaches text s rest
exactly text s rest e = ((s, rest), e, omega arith, λ le. refl)

reaches_by : (text : List ℕ) (x : Shape × List ℕ) (s : Shape) (rest : List ℕ) → shape text ≡ Some x → Reached x s rest → Reaches text s rest
reaches_by text x s rest e w = (x, e, w.0, w.1)

number_reaches : (text : List ℕ) (s : Shape) (rest : List ℕ) → begins_with_digit 10 text ≡ true → Reached (number_shape text) s rest → Reaches text s rest
number_reaches [] s rest e w = let never : ⊥ = cc in absurd never
number_reaches (b ∷ bytes) s rest e w = reaches_by (b ∷ bytes) (number_shape (b ∷ bytes)) s rest (shape_number b bytes e) w

cast_short : (rest : List ℕ) → Reached (cast rest) (Word (codes "as")) rest
unfolding cast
cast_short [] = (omega arith, λ le. refl)
cast_short (b ∷ rest) = by_tests (b == 63) (b == 33)
  where
    by_tests : (u v : Bool) → Reached (if u then (Mark s.AsOptional, rest) else (if v then (Mark s.AsForce, rest) else (Word (codes "as"), b ∷ rest))) (Word (codes "as")) (b ∷ rest)
    by_tests true v = (omega arith, λ le. absurd (omega (arith, le)))
    by_tests false true = (omega arith, λ le. absurd (omega (arith, le)))
    by_tests false false = (omega arith, λ le. refl)

word_short : (w rest : List ℕ) → Reached (word_shape w rest) (Word w) rest
unfolding word_shape
word_short w rest = by_test (bytes_eq w (codes "as")) refl
  where
    by_test : (v : Bool) → bytes_eq w (codes "as") ≡ v → Reached (if v then cast rest else (Word w, rest)) (Word w) rest
    by_test true e = subst (λ x. Reached (cast rest) (Word x) rest) (sym ((bytes_eq-Decides w (codes "as")).0 e)) (cast_short rest)
    by_test false e = (omega arith, λ le. refl)

word_reaches : (b : ℕ) (text some rest : List ℕ) → is_first_of_name b ≡ true → Front is_part_of_name text some rest → Reaches (b ∷ text) (Word (b ∷ some)) rest
word_reaches b text some rest n d =
    let w = word_short (b ∷ front is_part_of_name text) (behind is_part_of_name text) in
    let least = behind_shortest is_part_of_name d in (
      word_shape (b ∷ front is_part_of_name text) (behind is_part_of_name text),
      shape_word b text n,
      omega (arith, w.0, least),
      λ le.
          let same = longest_front is_part_of_name d (omega (arith, w.0, le)) in
          w.1 (omega (arith, least, le)) ∙ (λ i. (Word (b ∷ same.0 i), same.1 i)),
    )

mark_by : (text : List ℕ) (x : Sign × List ℕ) (s : Sign) (rest : List ℕ) → shape text ≡ Some (Mark x.0, x.1) → Short x s rest → Reaches text (Mark s) rest
mark_by text x s rest e w = ((Mark x.0, x.1), e, w.0, λ le. ap (λ y. (Mark y.0, y.1)) (w.1 le))

mark_reaches : (s : Sign) (rest : List ℕ) → Reaches (sign_spelling s ++ rest) (Mark s) rest
unfolding shape sign single longer_by longer_by_two behind_less front behind word_shape cast
mark_reaches s.Less rest = mark_by (sign_spelling s.Less ++ rest) (behind_less rest) s.Less rest refl (less_short rest)
mark_reaches s.Move rest = mark_by (sign_spelling s.Move ++ rest) (longer_by_two 62 s.Swap 33 s.ForceMove s.Move rest) s.Move rest refl (two_short 62 s.Swap 33 s.ForceMove s.Move rest)
mark_reaches s.Greater rest = mark_by (sign_spelling s.Greater ++ rest) (longer_by 61 s.GreaterOrEqual s.Greater rest) s.Greater rest refl (longer_short 61 s.GreaterOrEqual s.Greater rest)
mark_reaches s.Assign rest = mark_by (sign_spelling s.Assign ++ rest) (longer_by 61 s.Equal s.Assign rest) s.Assign rest refl (longer_short 61 s.Equal s.Assign rest)
mark_reaches s.Bang rest = mark_by (sign_spelling s.Bang ++ rest) (longer_by 61 s.NotEqual s.Bang rest) s.Bang rest refl (longer_short 61 s.NotEqual s.Bang rest)
mark_reaches s.Ampersand rest = mark_by (sign_spelling s.Ampersand ++ rest) (longer_by 38 s.And s.Ampersand rest) s.Ampersand rest refl (longer_short 38 s.And s.Ampersand rest)
mark_reaches s.Bar rest = mark_by (sign_spelling s.Bar ++ rest) (longer_by 124 s.Or s.Bar rest) s.Bar rest refl (longer_short 124 s.Or s.Bar rest)
mark_reaches s.Minus rest = mark_by (sign_spelling s.Minus ++ rest) (longer_by 62 s.Arrow s.Minus rest) s.Minus rest refl (longer_short 62 s.Arrow s.Minus rest)
mark_reaches s.Question rest = mark_by (sign_spelling s.Question ++ rest) (longer_by_two 63 s.Coalesce 46 s.OptionalDot s.Question rest) s.Question rest refl (two_short 63 s.Coalesce 46 s.OptionalDot s.Question rest)
mark_reaches other rest = exactly (sign_spelling other ++ rest) (Mark other) rest refl

pub shaped_reaches : {text : List ℕ} {s : Shape} {rest : List ℕ} → Shaped text s rest → Reaches text s rest
shaped_reaches (l.word {b} {text} {front = some} {rest} n d) = word_reaches b text some rest n d
shaped_reaches (l.decimal {text} {digits} {rest} d) = number_reaches text (Whole 10 digits) rest (numeral_begins d) (decimal_reached d)
shaped_reaches (l.based {letter} {radix} {text} {digits} {rest} e d) = number_reaches (48 ∷ letter ∷ text) (Whole radix digits) rest refl (based_reached letter radix e d)
shaped_reaches (l.pointed {text} {digits} {after} {decimals} {rest} d f few) = number_reaches text (Fixed digits decimals) rest (numeral_begins d) (pointed_reached d f few)
shaped_reaches (l.quotation {text} {content} {rest} q) = exactly (34 ∷ text) (Quotation content) rest (shape_quotation text ∙ ap (option_map (λ x. (Quotation x.0, x.1))) (quoted_found q (length text) (omega arith)))
shaped_reaches (l.mark {sign = s} {text} {rest} e) = subst (λ t. Reaches t (Mark s) rest) (sym e) (mark_reaches s rest)
