-- What `sign` reads is the longest sign.
use Rattle.std.proofs.Common.{◌≡◌, ℕ, ◌≤◌, ◌==◌, ◌&&◌, Bool, true, false, if◌then◌else◌, nat_lt, List, [], ◌∷◌, ◌++◌, length, Option, Some, None, IfSome, refl, sym, ap, ◌∙◌, arith, eqb-true}
use Rattle.std.proofs.lemmas.Bool.Decides.{nat_tests}
use Rattle.std.specs.List.{list_all}
use Rattle.cad_grammar.specs.declared.token.Sign.{Sign}
use Rattle.cad_grammar.specs.declared.token.Sign.TheVariants as s
use Rattle.cad_grammar.specs.Lexes.{sign_spelling}
use Rattle.cad_lex.specs.Code.Reading.{with_rest, longer_by, longer_by_two, behind_less, single, sign}
use Rattle.cad_lex.proofs.Seams.{Seam, seam_first, seam_later}

abbrev Spells : List ℕ → Sign × List ℕ → Type 0
Spells text x = text ≡ sign_spelling x.0 ++ x.1

-- one byte behind the first
longer_is : (b byte : ℕ) (long short : Sign) (bytes : List ℕ) → sign_spelling short ≡ b ∷ [] → sign_spelling long ≡ b ∷ byte ∷ [] → Spells (b ∷ bytes) (longer_by byte long short bytes)
unfolding longer_by
longer_is b byte long short [] e f = ap (λ w. w ++ []) (sym e)
longer_is b byte long short (c ∷ rest) e f = by_test (c == byte) refl
  where
    by_test : (v : Bool) → (c == byte) ≡ v → Spells (b ∷ c ∷ rest) (if v then (long, rest) else (short, c ∷ rest))
    by_test true t = let same : c ≡ byte = eqb-true _ _ t in ap (λ x. b ∷ x ∷ rest) same ∙ ap (λ w. w ++ rest) (sym f)
    by_test false t = ap (λ w. w ++ c ∷ rest) (sym e)

-- one of two bytes behind a spelling
two_is : (w : List ℕ) (first second : ℕ) (long other short : Sign) (bytes : List ℕ) → sign_spelling short ≡ w → ((rest : List ℕ) → w ++ first ∷ rest ≡ sign_spelling long ++ rest) → ((rest : List ℕ) → w ++ second ∷ rest ≡ sign_spelling other ++ rest)
    → Spells (w ++ bytes) (longer_by_two first long second other short bytes)
unfolding longer_by_two
two_is w first second long other short [] e f g = ap (λ w. w ++ []) (sym e)
two_is w first second long other short (c ∷ rest) e f g = by_tests (c == first) refl (c == second) refl
  where
    by_tests : (u : Bool) → (c == first) ≡ u → (v : Bool) → (c == second) ≡ v → Spells (w ++ c ∷ rest) (if u then (long, rest) else (if v then (other, rest) else (short, c ∷ rest)))
    by_tests true t v k = let same : c ≡ first = eqb-true _ _ t in ap (λ x. w ++ x ∷ rest) same ∙ f rest
    by_tests false t true k = let same : c ≡ second = eqb-true _ _ k in ap (λ x. w ++ x ∷ rest) same ∙ g rest
    by_tests false t false k = ap (λ w. w ++ c ∷ rest) (sym e)

less_is : (bytes : List ℕ) → Spells (60 ∷ bytes) (behind_less bytes)
unfolding behind_less
less_is [] = refl
less_is (c ∷ rest) = by_test (c == 45) refl
  where
    by_test : (v : Bool) → (c == 45) ≡ v → Spells (60 ∷ c ∷ rest) (if v then longer_by_two 62 s.Swap 33 s.ForceMove s.Move rest else longer_by 61 s.LessOrEqual s.Less (c ∷ rest))
    by_test true t =
        let same : c ≡ 45 = eqb-true _ _ t in
        ap (λ x. 60 ∷ x ∷ rest) same ∙ two_is (60 ∷ 45 ∷ []) 62 33 s.Swap s.ForceMove s.Move rest refl (λ rest. refl) (λ rest. refl)
    by_test false t = longer_is 60 61 s.LessOrEqual s.Less (c ∷ rest) refl refl

-- signs of one byte
abbrev SpelledBy : ℕ → Option Sign → Type 0
SpelledBy b o = IfSome o (λ s. sign_spelling s ≡ b ∷ [])

single_by : (b code : ℕ) (s : Sign) (o : Option Sign) → sign_spelling s ≡ code ∷ [] → SpelledBy b o → SpelledBy b (if b == code then Some s else o)
single_by b code s o spelling h = by_test (b == code) refl
  where
    by_test : (v : Bool) → (b == code) ≡ v → SpelledBy b (if v then Some s else o)
    by_test true e = spelling ∙ ap (λ x. x ∷ []) (sym (eqb-true _ _ e))
    by_test false e = h

single_is : (b : ℕ) → SpelledBy b (single b)
unfolding single
single_is b = single_by b 94 s.Caret _ refl (single_by b 43 s.Plus _ refl (single_by b 42 s.Star _ refl (single_by b 47 s.Slash _ refl (single_by b 37 s.Percent _ refl (single_by b 46 s.Dot _ refl (single_by b 44 s.Comma _ refl (single_by b 58 s.Colon _ refl (single_by b 59 s.Semicolon _ refl (single_by b 40 s.OpenParenthesis _ refl (single_by b 41 s.CloseParenthesis _ refl (single_by b 91 s.OpenBracket _ refl (single_by b 93 s.CloseBracket _ refl (single_by b 123 s.OpenBrace _ refl (single_by b 125 s.CloseBrace _ refl (single_by b 64 s.At _ refl tt)))))))))))))))

-- what is read is spelled so
abbrev pub AreSpelled : List ℕ → Option (Sign × List ℕ) → Type 0
AreSpelled text o = IfSome o (λ x. text ≡ sign_spelling x.0 ++ x.1)

begins : (b code : ℕ) (rest : List ℕ) (x : Sign × List ℕ) (o : Option (Sign × List ℕ)) → Spells (code ∷ rest) x → AreSpelled (b ∷ rest) o → AreSpelled (b ∷ rest) (if b == code then Some x else o)
begins b code rest x o e h = by_test (b == code) refl
  where
    by_test : (v : Bool) → (b == code) ≡ v → AreSpelled (b ∷ rest) (if v then Some x else o)
    by_test true t = ap (λ c. c ∷ rest) (eqb-true _ _ t) ∙ e
    by_test false t = h

one_byte : (b : ℕ) (rest : List ℕ) (o : Option Sign) → SpelledBy b o → AreSpelled (b ∷ rest) (with_rest rest o)
one_byte b rest None h = tt
one_byte b rest (Some s) h = ap (λ w. w ++ rest) (sym h)

pub sign_is : (b : ℕ) (rest : List ℕ) → AreSpelled (b ∷ rest) (sign b rest)
unfolding sign
sign_is b rest =
    begins b 60 rest _ _ (less_is rest)
    (begins b 62 rest _ _ (longer_is 62 61 s.GreaterOrEqual s.Greater rest refl refl)
    (begins b 61 rest _ _ (longer_is 61 61 s.Equal s.Assign rest refl refl)
    (begins b 33 rest _ _ (longer_is 33 61 s.NotEqual s.Bang rest refl refl)
    (begins b 38 rest _ _ (longer_is 38 38 s.And s.Ampersand rest refl refl)
    (begins b 124 rest _ _ (longer_is 124 124 s.Or s.Bar rest refl refl)
    (begins b 45 rest _ _ (longer_is 45 62 s.Arrow s.Minus rest refl refl)
    (begins b 63 rest _ _ (two_is (63 ∷ []) 63 46 s.Coalesce s.OptionalDot s.Question rest refl (λ rest. refl) (λ rest. refl))
    (one_byte b rest (single b) (single_is b)))))))))

-- the shorter sign, where it is the longest

abbrev pub Short : Sign × List ℕ → Sign → List ℕ → Type 0
Short x s rest = (length x.1 ≤ length rest) × (length rest ≤ length x.1 → x ≡ (s, rest))

pub longer_short : (byte : ℕ) (long short : Sign) (bytes : List ℕ) → Short (longer_by byte long short bytes) short bytes
unfolding longer_by
longer_short byte long short [] = (omega arith, λ le. refl)
longer_short byte long short (c ∷ rest) = by_test (c == byte)
  where
    by_test : (v : Bool) → Short (if v then (long, rest) else (short, c ∷ rest)) short (c ∷ rest)
    by_test true = (omega arith, λ le. absurd (omega (arith, le)))
    by_test false = (omega arith, λ le. refl)

pub two_short : (first : ℕ) (long : Sign) (second : ℕ) (other short : Sign) (bytes : List ℕ) → Short (longer_by_two first long second other short bytes) short bytes
unfolding longer_by_two
two_short first long second other short [] = (omega arith, λ le. refl)
two_short first long second other short (c ∷ rest) = by_tests (c == first) (c == second)
  where
    by_tests : (u v : Bool) → Short (if u then (long, rest) else (if v then (other, rest) else (short, c ∷ rest))) short (c ∷ rest)
    by_tests true v = (omega arith, λ le. absurd (omega (arith, le)))
    by_tests false true = (omega arith, λ le. absurd (omega (arith, le)))
    by_tests false false = (omega arith, λ le. refl)

pub less_short : (bytes : List ℕ) → Short (behind_less bytes) s.Less bytes
unfolding behind_less
less_short [] = (omega arith, λ le. refl)
less_short (c ∷ rest) = by_test (c == 45)
  where
    by_test : (v : Bool) → Short (if v then longer_by_two 62 s.Swap 33 s.ForceMove s.Move rest else longer_by 61 s.LessOrEqual s.Less (c ∷ rest)) s.Less (c ∷ rest)
    by_test true = let w = two_short 62 s.Swap 33 s.ForceMove s.Move rest in (omega (arith, w.0), λ le. absurd (omega (arith, w.0, le)))
    by_test false = longer_short 61 s.LessOrEqual s.Less (c ∷ rest)

-- a sign ends with an ASCII byte

low_spelling : (s : Sign) → list_all (λ b. nat_lt b 128) (sign_spelling s) ≡ true
low_spelling s.Move = refl
low_spelling _ = refl

some_spelling : (s : Sign) → 1 ≤ length (sign_spelling s)
some_spelling s.Move = omega arith
some_spelling _ = omega arith

low_seam : (w rest : List ℕ) → 1 ≤ length w → list_all (λ b. nat_lt b 128) w ≡ true → Seam (w ++ rest) rest
low_seam [] rest some e = absurd (omega (arith, some))
low_seam (b ∷ []) rest some e = seam_first b rest (grind (arith, nat_tests))
low_seam (b ∷ c ∷ w) rest some e = seam_later (low_seam (c ∷ w) rest (omega arith) (later (nat_lt b 128) (list_all (λ x. nat_lt x 128) (c ∷ w)) e))
  where
    later : (u v : Bool) → (u && v) ≡ true → v ≡ true
    later true v e = e
    later false v e = let never : ⊥ = cc in absurd never

pub sign_seam : (s : Sign) (rest : List ℕ) → Seam (sign_spelling s ++ rest) rest
sign_seam s rest = low_seam (sign_spelling s) rest (some_spelling s) (low_spelling s)
