-- What `quoted` reads is what a quotation says.
use Rattle.std.proofs.Common.{◌≡◌, ℕ, zero, suc, ◌+◌, ◌-◌, ◌^◌, ◌<◌, ◌≤◌, ◌==◌, ◌&&◌, Bool, true, false, if◌then◌else◌, cond, nat_lt, nat_le, List, [], ◌∷◌, ◌++◌, length, take, drop, get_or, Option, Some, None, IfSome, IsUtf8, refl, sym, ap, ◌∙◌, subst, arith, append_assoc, eqb-true}
use Rattle.std.proofs.lemmas.Bool.Decides.{nat_tests}
use Rattle.std.proofs.lemmas.Str.{encode_ascii}
use Rattle.std.proofs.Math.Seq.{take-length}
use Rattle.std.specs.Char.{IsScalar}
use Rattle.std.specs.Prelude.{encode_utf8}
use Rattle.cad_grammar.specs.Lexes.{is_plain, is_hexadecimal, escaped, number, Front, Quoted}
use Rattle.cad_grammar.specs.Lexes as l
use Rattle.cad_lex.specs.Code.Reading.{front, behind, quoted, behind_plain, behind_escape, with_content, with_rest, code_of, scalar_of, scalar_escape, escape, number_from}
use Rattle.cad_lex.proofs.Numbers.{number_is, number_found}
use Rattle.cad_lex.proofs.Runs.{front_is_utf8, front_of, front_and_behind, front_exact, front_stops, behind_stops, front_goes, behind_goes}
use Rattle.cad_lex.proofs.Seams.{Seam, seam_first, seam_later, behind_seam, utf8_behind}
use Rattle.cad_lex.proofs.Numerals.{front_seam}

no_plain_is_low : (b : ℕ) → is_plain b ≡ false → b < 128
no_plain_is_low b e = grind (arith, nat_tests)

pub plain_is_utf8 : (bytes : List ℕ) → IsUtf8 bytes → IsUtf8 (front is_plain bytes)
plain_is_utf8 bytes u = front_is_utf8 is_plain no_plain_is_low bytes u

-- characters

fitting : (n : ℕ) (v w : Bool) → cond v true w ≡ true → (if v then Some n else (if w then Some n else None)) ≡ Some n
fitting n true w e = refl
fitting n false true e = refl
fitting n false false e = let never : ⊥ = cc in absurd never

code_found : (n : ℕ) → IsScalar n → code_of (Some n) ≡ Some n
unfolding code_of
code_found n h = fitting n _ _ h

code_is : (n : ℕ) → IfSome (code_of (Some n)) (λ c. (c ≡ n) × IsScalar c)
unfolding code_of
code_is n = by_tests (nat_lt n 55296) refl (nat_le 57344 n && nat_lt n 1114112) refl
  where
    by_tests : (v : Bool) → nat_lt n 55296 ≡ v → (w : Bool) → (nat_le 57344 n && nat_lt n 1114112) ≡ w
        → IfSome (if v then Some n else (if w then Some n else None)) (λ c. (c ≡ n) × IsScalar c)
    by_tests true e w f = (refl, rw e refl)
    by_tests false e true f = (refl, rw (e, f) refl)
    by_tests false e false f = tt

-- Escaped text c rest: the text is what stands behind a backslash for the character c, and then rest.
pub data Escaped : List ℕ → ℕ → List ℕ → Type 0 where
  letter : {b c : ℕ} {rest : List ℕ} → escaped b ≡ Some c → Escaped (b ∷ rest) c rest
  scalar_value : {text digits after : List ℕ} → Front is_hexadecimal text digits (125 ∷ after) → 1 ≤ length digits → length digits ≤ 6 → IsScalar (number 16 digits)
      → Escaped (117 ∷ 123 ∷ text) (number 16 digits) after

escaped_low : (b c : ℕ) → escaped b ≡ Some c → b < 128
escaped_low b c e = grind (arith, nat_tests)

escaped_ascii : (b c : ℕ) → escaped b ≡ Some c → c < 128
escaped_ascii b c e = grind (arith, nat_tests)

no_u : (b c : ℕ) → escaped b ≡ Some c → (b == 117) ≡ false
no_u b c e = by_test (b == 117) refl
  where
    by_test : (v : Bool) → (b == 117) ≡ v → v ≡ false
    by_test true t = let same : b ≡ 117 = eqb-true _ _ t in let never : escaped 117 ≡ Some c = subst (λ x. escaped x ≡ Some c) same e in cc
    by_test false t = refl

pub escaped_seam : {text : List ℕ} {c : ℕ} {rest : List ℕ} → Escaped text c rest → Seam text rest
escaped_seam (letter {b} {c} {rest} e) = seam_first b rest (escaped_low b c e)
escaped_seam (scalar_value {after} d some few h) = seam_later (seam_later (front_seam d (seam_first 125 after (omega arith))))

ends_hexadecimal : (after : List ℕ) → (front is_hexadecimal (125 ∷ after) ≡ []) × (behind is_hexadecimal (125 ∷ after) ≡ 125 ∷ after)
ends_hexadecimal after = (front_stops is_hexadecimal 125 after refl, behind_stops is_hexadecimal 125 after refl)

six_digits : (n : ℕ) → 1 ≤ n → n ≤ 6 → (nat_lt 0 n && nat_le n 6) ≡ true
six_digits n some few = grind (arith, nat_tests)

scalar_small : (n : ℕ) → IsScalar n → n < 2 ^ 128
scalar_small n h = grind (arith, nat_tests)

pub escape_found : {text : List ℕ} {c : ℕ} {rest : List ℕ} → Escaped text c rest → escape text ≡ Some (c, rest)
unfolding escape scalar_escape scalar_of
escape_found (letter {b} {c} {rest} e) = rw (no_u b c e, e) refl
escape_found (scalar_value {text} {digits} {after} d some few h) =
    let w = front_exact is_hexadecimal d (ends_hexadecimal after).0 (ends_hexadecimal after).1 in
    rw (w.0, w.1, six_digits (length digits) some few, number_found 16 0 digits (scalar_small (number 16 digits) h), code_found (number 16 digits) h) refl

both_true : (v w : Bool) → (v && w) ≡ true → (v ≡ true) × (w ≡ true)
both_true true w e = (refl, e)
both_true false w e = let never : ⊥ = cc in absurd never

digits_between : (n : ℕ) → (nat_lt 0 n && nat_le n 6) ≡ true → (1 ≤ n) × (n ≤ 6)
digits_between n e = (grind (arith, nat_tests), grind (arith, nat_tests))

code_of_number : (n : ℕ) (o : Option ℕ) → IfSome o (λ m. (n ≡ m) × (m < 2 ^ 128)) → IfSome (code_of o) (λ x. (x ≡ n) × IsScalar x)
unfolding code_of
code_of_number n None h = tt
code_of_number n (Some m) h = subst (λ k. IfSome (code_of (Some m)) (λ c. (c ≡ k) × IsScalar c)) (sym h.0) (code_is m)

scalar_is : (text digits rest : List ℕ) → Front is_hexadecimal text digits rest → IfSome (scalar_of digits rest) (λ x. Escaped (117 ∷ 123 ∷ text) x.0 x.1)
unfolding scalar_of
scalar_is text digits [] d = tt
scalar_is text digits (b ∷ after) d = by_test ((b == 125) && (nat_lt 0 (length digits) && nat_le (length digits) 6)) refl
  where
    by_code : (c : Option ℕ) → IfSome c (λ x. (x ≡ number 16 digits) × IsScalar x) → b ≡ 125 → (1 ≤ length digits) × (length digits ≤ 6)
        → IfSome (with_rest after c) (λ x. Escaped (117 ∷ 123 ∷ text) x.0 x.1)
    by_code None h e w = tt
    by_code (Some c) h e w =
        subst (λ x. Escaped (117 ∷ 123 ∷ text) x after) (sym h.0)
        (scalar_value (subst (λ x. Front is_hexadecimal text digits (x ∷ after)) e d) w.0 w.1 (subst IsScalar h.0 h.1))

    by_test : (v : Bool) → ((b == 125) && (nat_lt 0 (length digits) && nat_le (length digits) 6)) ≡ v
        → IfSome (if v then with_rest after (code_of (number_from 16 (Some 0) digits)) else None) (λ x. Escaped (117 ∷ 123 ∷ text) x.0 x.1)
    by_test true e =
        let w = both_true _ _ e in
        by_code (code_of (number_from 16 (Some 0) digits)) (code_of_number (number 16 digits) (number_from 16 (Some 0) digits) (number_is 16 0 digits (omega arith))) (eqb-true _ _ w.0) (digits_between (length digits) w.1)
    by_test false e = tt

scalar_escape_is : (text : List ℕ) → IfSome (scalar_escape text) (λ x. Escaped (117 ∷ text) x.0 x.1)
unfolding scalar_escape
scalar_escape_is [] = tt
scalar_escape_is (b ∷ text) = by_test (b == 123) refl
  where
    by_test : (v : Bool) → (b == 123) ≡ v → IfSome (if v then scalar_of (front is_hexadecimal text) (behind is_hexadecimal text) else None) (λ x. Escaped (117 ∷ b ∷ text) x.0 x.1)
    by_test true e =
        let same : b ≡ 123 = eqb-true _ _ e in
        subst (λ y. IfSome (scalar_of (front is_hexadecimal text) (behind is_hexadecimal text)) (λ x. Escaped (117 ∷ y ∷ text) x.0 x.1)) (sym same)
        (scalar_is text _ _ (front_of is_hexadecimal text))
    by_test false e = tt

pub escape_is : (text : List ℕ) → IfSome (escape text) (λ x. Escaped text x.0 x.1)
unfolding escape
escape_is [] = tt
escape_is (b ∷ text) = by_test (b == 117) refl
  where
    by_letter : (o : Option ℕ) → escaped b ≡ o → IfSome (with_rest text o) (λ x. Escaped (b ∷ text) x.0 x.1)
    by_letter None e = tt
    by_letter (Some c) e = letter e

    by_test : (v : Bool) → (b == 117) ≡ v → IfSome (if v then scalar_escape text else with_rest text (escaped b)) (λ x. Escaped (b ∷ text) x.0 x.1)
    by_test true e = let same : b ≡ 117 = eqb-true _ _ e in subst (λ y. IfSome (scalar_escape text) (λ x. Escaped (y ∷ text) x.0 x.1)) (sym same) (scalar_escape_is text)
    by_test false e = by_letter (escaped b) refl

-- quotations

content_joins : (a b : List ℕ) (o : Option (List ℕ × List ℕ)) → with_content a (with_content b o) ≡ with_content (a ++ b) o
content_joins a b None = refl
content_joins a b (Some x) = ap (λ c. Some (c, x.1)) (sym (append_assoc a b x.0))

pub one_turn : (content text : List ℕ) (all turn : ℕ) → turn < all
    → with_content content (quoted (all - turn) text) ≡ with_content (content ++ front is_plain text) (behind_plain (quoted (all - suc turn)) (behind is_plain text))
unfolding quoted
one_turn content text all turn below =
    let e : all - turn ≡ suc (all - suc turn) = omega arith in
    rw e (content_joins content (front is_plain text) (behind_plain (quoted (all - suc turn)) (behind is_plain text)))

written_by : {written : List ℕ} {c : ℕ} {after content rest : List ℕ} → Escaped written c after → Quoted after content rest → Quoted (92 ∷ written) (encode_utf8 c ++ content) rest
written_by {content = more} {rest = last} (letter {b} {c} {rest} e) q =
    subst (λ (x : List ℕ). Quoted (92 ∷ b ∷ rest) (x ++ more) last) (sym (encode_ascii c (escaped_ascii b c e))) (l.escape e q)
written_by (scalar_value d some few h) q = l.scalar_value d some few h q

plain_front : {text some rest content after : List ℕ} → Front is_plain text some rest → Quoted rest content after → Quoted text (some ++ content) after
plain_front l.none q = q
plain_front (l.more e d) q = l.plain e (plain_front d q)

abbrev IsQuoted : List ℕ → Option (List ℕ × List ℕ) → Type 0
IsQuoted text o = IfSome o (λ x. Quoted text x.0 x.1)

escape_quoted : (more : List ℕ → Option (List ℕ × List ℕ)) → ((text : List ℕ) → IsQuoted text (more text)) → (written : List ℕ) (o : Option (ℕ × List ℕ)) → IfSome o (λ x. Escaped written x.0 x.1)
    → IsQuoted (92 ∷ written) (behind_escape more o)
escape_quoted more h written None d = tt
escape_quoted more h written (Some x) d = by_more (more x.1) (h x.1)
  where
    by_more : (o : Option (List ℕ × List ℕ)) → IsQuoted x.1 o → IsQuoted (92 ∷ written) (with_content (encode_utf8 x.0) o)
    by_more None q = tt
    by_more (Some y) q = written_by d q

behind_quoted : (more : List ℕ → Option (List ℕ × List ℕ)) → ((text : List ℕ) → IsQuoted text (more text)) → (rest : List ℕ) → IsQuoted rest (behind_plain more rest)
unfolding behind_plain
behind_quoted more h [] = tt
behind_quoted more h (b ∷ rest) = by_tests (b == 34) refl (b == 92) refl
  where
    by_tests : (quote : Bool) → (b == 34) ≡ quote → (backslash : Bool) → (b == 92) ≡ backslash
        → IsQuoted (b ∷ rest) (if quote then Some ([], rest) else (if backslash then behind_escape more (escape rest) else None))
    by_tests true e v f = let same : b ≡ 34 = eqb-true _ _ e in subst (λ x. Quoted (x ∷ rest) [] rest) (sym same) l.closing
    by_tests false e true f = let same : b ≡ 92 = eqb-true _ _ f in subst (λ x. IsQuoted (x ∷ rest) (behind_escape more (escape rest))) (sym same) (escape_quoted more h rest (escape rest) (escape_is rest))
    by_tests false e false f = tt

pub quoted_is : (turns : ℕ) (text : List ℕ) → IsQuoted text (quoted turns text)
unfolding quoted
quoted_is zero text = tt
quoted_is (suc turns) text = by_rest (behind_plain (quoted turns) (behind is_plain text)) (behind_quoted (quoted turns) (quoted_is turns) (behind is_plain text))
  where
    by_rest : (o : Option (List ℕ × List ℕ)) → IsQuoted (behind is_plain text) o → IsQuoted text (with_content (front is_plain text) o)
    by_rest None q = tt
    by_rest (Some x) q = plain_front (front_of is_plain text) q

-- and what is one is read

at_quote : (turns : ℕ) (rest : List ℕ) → quoted (suc turns) (34 ∷ rest) ≡ Some ([], rest)
unfolding quoted behind_plain front behind
at_quote turns rest = refl

at_backslash : (turns : ℕ) (written : List ℕ) → quoted (suc turns) (92 ∷ written) ≡ with_content [] (behind_escape (quoted turns) (escape written))
unfolding quoted behind_plain front behind
at_backslash turns written = refl

at_plain : (turns b : ℕ) (text : List ℕ) → is_plain b ≡ true → quoted (suc turns) (b ∷ text) ≡ with_content (b ∷ []) (quoted (suc turns) text)
unfolding quoted
at_plain turns b text e =
    rw (front_goes is_plain b text e, behind_goes is_plain b text e)
    (sym (content_joins (b ∷ []) (front is_plain text) (behind_plain (quoted turns) (behind is_plain text))))

at_escape : (turns : ℕ) (written : List ℕ) (c : ℕ) (after content rest : List ℕ) → escape written ≡ Some (c, after) → quoted turns after ≡ Some (content, rest)
    → quoted (suc turns) (92 ∷ written) ≡ Some (encode_utf8 c ++ content, rest)
at_escape turns written c after content rest e f =
    at_backslash turns written ∙ ap (λ o. with_content [] (behind_escape (quoted turns) o)) e ∙ ap (λ o. with_content [] (with_content (encode_utf8 c) o)) f

front_shorter : {test : ℕ → Bool} {text some rest : List ℕ} → Front test text some rest → length rest ≤ length text
front_shorter l.none = omega arith
front_shorter (l.more e d) = omega (arith, front_shorter d)

pub quoted_found : {text content rest : List ℕ} → Quoted text content rest → (turns : ℕ) → length text ≤ turns → quoted turns text ≡ Some (content, rest)
quoted_found (l.closing) zero h = absurd (omega (arith, h))
quoted_found (l.closing {rest}) (suc turns) h = at_quote turns rest
quoted_found (l.plain e q) zero h = absurd (omega (arith, h))
quoted_found (l.plain {b} {text} {content} {rest} e q) (suc turns) h = at_plain turns b text e ∙ ap (with_content (b ∷ [])) (quoted_found q (suc turns) (omega (arith, h)))
quoted_found (l.escape e q) zero h = absurd (omega (arith, h))
quoted_found (l.escape {b} {c} {text} {content} {rest} e q) (suc turns) h =
    at_escape turns (b ∷ text) c text content rest (escape_found (letter e)) (quoted_found q turns (omega (arith, h))) ∙ ap (λ (x : List ℕ). Some (x ++ content, rest)) (encode_ascii c (escaped_ascii b c e))
quoted_found (l.scalar_value d some few i q) zero h = absurd (omega (arith, h))
quoted_found (l.scalar_value {text} {digits} {after} {content} {rest} d some few i q) (suc turns) h =
    at_escape turns (117 ∷ 123 ∷ text) (number 16 digits) after content rest (escape_found (scalar_value d some few i)) (quoted_found q turns (omega (arith, h, front_shorter d)))

-- a turn of the loop

head_and_tail : (l : List ℕ) → 1 ≤ length l → l ≡ get_or l 0 0 ∷ drop 1 l
head_and_tail [] h = absurd (omega (arith, h))
head_and_tail (b ∷ l) h = refl

pub whole_tail : (l : List ℕ) → take (length l - 1) (drop 1 l) ≡ drop 1 l
whole_tail [] = refl
whole_tail (b ∷ l) = let e : length (b ∷ l) - 1 ≡ length l = omega arith in rw e (take-length l)

at_mark : (text rest : List ℕ) → rest ≡ behind is_plain text → 1 ≤ length rest → get_or rest 0 0 ≡ 92 → behind is_plain text ≡ 92 ∷ drop 1 rest
at_mark text rest e some mark = sym e ∙ head_and_tail rest some ∙ ap (λ b. b ∷ drop 1 rest) mark

pub next_turn : (all turn : ℕ) (content text plain rest pushed after longer : List ℕ) (c : ℕ) (goal : Option (List ℕ × List ℕ)) → turn < all → with_content content (quoted (all - turn) text) ≡ goal
    → plain ≡ front is_plain text → rest ≡ behind is_plain text → 1 ≤ length rest → get_or rest 0 0 ≡ 92 → pushed ≡ content ++ plain → escape (drop 1 rest) ≡ Some (c, after) → longer ≡ pushed ++ encode_utf8 c
    → with_content longer (quoted (all - (turn + 1)) after) ≡ goal
unfolding behind_plain
next_turn all turn content text plain rest pushed after longer c goal below so_far p e some mark q f r =
    let more = quoted (all - suc turn) in
    let here : with_content content (quoted (all - turn) text) ≡ with_content (content ++ front is_plain text) (behind_plain more (behind is_plain text)) = one_turn content text all turn below in
    let there : with_content (content ++ front is_plain text) (behind_plain more (behind is_plain text)) ≡ with_content (content ++ front is_plain text) (behind_escape more (escape (drop 1 rest))) =
    ap (λ l. with_content (content ++ front is_plain text) (behind_plain more l)) (at_mark text rest e some mark) in
    let escaping : with_content (content ++ front is_plain text) (behind_escape more (escape (drop 1 rest))) ≡ with_content (content ++ front is_plain text) (with_content (encode_utf8 c) (more after)) =
    ap (λ o. with_content (content ++ front is_plain text) (behind_escape more o)) f in
    let joins : with_content (content ++ front is_plain text) (with_content (encode_utf8 c) (more after)) ≡ with_content ((content ++ front is_plain text) ++ encode_utf8 c) (more after) =
    content_joins (content ++ front is_plain text) (encode_utf8 c) (more after) in
    let same : longer ≡ (content ++ front is_plain text) ++ encode_utf8 c = r ∙ ap (λ l. l ++ encode_utf8 c) (q ∙ ap (λ l. content ++ l) p) in
    let turns : all - (turn + 1) ≡ all - suc turn = omega arith in
    rw (turns, same) (sym joins ∙ sym escaping ∙ sym there ∙ sym here ∙ so_far)

pub next_utf8 : (text rest after : List ℕ) (c : ℕ) → IsUtf8 text → rest ≡ behind is_plain text → 1 ≤ length rest → get_or rest 0 0 ≡ 92 → escape (drop 1 rest) ≡ Some (c, after) → IsUtf8 after
next_utf8 text rest after c u e some mark f =
    let whole : text ≡ front is_plain text ++ 92 ∷ drop 1 rest = front_and_behind is_plain text ∙ ap (λ l. front is_plain text ++ l) (at_mark text rest e some mark) in
    let d : Escaped (drop 1 rest) c after = subst (λ o. IfSome o (λ x. Escaped (drop 1 rest) x.0 x.1)) f (escape_is (drop 1 rest)) in
    behind_seam (drop 1 rest) after (utf8_behind (front is_plain text) 92 (drop 1 rest) (omega arith) (subst IsUtf8 whole u)) (escaped_seam d)

pub behind_first : (bytes : List ℕ) → IsUtf8 bytes → 1 ≤ length bytes → get_or bytes 0 0 ≡ 34 → IsUtf8 (take (length bytes - 1) (drop 1 bytes))
behind_first bytes u some e =
    let whole : bytes ≡ 34 ∷ drop 1 bytes = head_and_tail bytes some ∙ ap (λ b. b ∷ drop 1 bytes) e in
    subst IsUtf8 (sym (whole_tail bytes)) (utf8_behind [] 34 (drop 1 bytes) (omega arith) (subst IsUtf8 whole u))
