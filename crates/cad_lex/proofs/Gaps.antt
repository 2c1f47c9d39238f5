-- What `gap` reads is the one gap at the front.
use Rattle.std.proofs.Common.{◌≡◌, ℕ, zero, suc, ◌+◌, ◌-◌, ◌<◌, ◌≤◌, ◌==◌, ◌&&◌, ◌||◌, Bool, true, false, if◌then◌else◌, List, [], ◌∷◌, ◌++◌, length, Option, Some, None, IfSome, IsUtf8, refl, sym, ap, ◌∙◌, subst, arith, eqb-true, length-append}
use Rattle.std.proofs.lemmas.List.{append_cancel_right}
use Rattle.std.proofs.lemmas.Bool.{false≢true}
use Rattle.std.proofs.lemmas.Bool.Decides.{nat_tests}
use Rattle.std.proofs.lemmas.Str.{IsUtf8-nil}
use Rattle.cad_grammar.specs.Lexes.{is_white_space, is_in_line, has_line_feed, opens_block, closes_block, opens_line, ends_line, Front, Inside, Gap}
use Rattle.cad_grammar.specs.Lexes as l
use Rattle.cad_lex.specs.Code.Reading.{front, behind, block, comment, gap}
use Rattle.cad_lex.proofs.Runs.{front_of, front_exact, front_stops, behind_stops, ends_empty, behind_fails}
use Rattle.cad_lex.proofs.Seams.{Seam, seam_first, seam_later, behind_seam, utf8_from}

or_false : (v : Bool) → v || false ≡ v
or_false true = refl
or_false false = refl

or_assoc : (u v w : Bool) → (u || v) || w ≡ u || (v || w)
or_assoc true v w = refl
or_assoc false v w = refl

-- block comments

after_zero : {depth a b : ℕ} {text some rest : List ℕ} → a ≡ 0 → Inside depth (a ∷ text) (b ∷ some) rest → Inside depth text some rest
after_zero e (l.opening d) = absurd (omega (arith, e))
after_zero e (l.closes d) = absurd (omega (arith, e))
after_zero e (l.goes_on f g d) = d

-- a comment ends behind the byte that is held and the text
pub record Ends (depth held : ℕ) (broken : Bool) (text : List ℕ) (x : Bool × List ℕ) : Type 0 where
  some : List ℕ
  inside : Inside depth (held ∷ text) (held ∷ some) x.1
  feeds : x.0 ≡ broken || has_line_feed some

abbrev MayEnd : ℕ → ℕ → Bool → List ℕ → Option (Bool × List ℕ) → Type 0
MayEnd depth held broken text o = IfSome o (Ends depth held broken text)

with_opening : (depth : ℕ) (broken : Bool) (bytes : List ℕ) (o : Option (Bool × List ℕ)) → MayEnd (suc (suc depth)) 0 broken bytes o → MayEnd (suc depth) 47 broken (42 ∷ bytes) o
with_opening depth broken bytes None h = tt
with_opening depth broken bytes (Some x) h = record { some = 42 ∷ h.some; inside = l.opening (after_zero refl h.inside); feeds = h.feeds }

with_closing : (depth : ℕ) (broken : Bool) (bytes : List ℕ) (o : Option (Bool × List ℕ)) → MayEnd (suc depth) 0 broken bytes o → MayEnd (suc (suc depth)) 42 broken (47 ∷ bytes) o
with_closing depth broken bytes None h = tt
with_closing depth broken bytes (Some x) h = record { some = 47 ∷ h.some; inside = l.closes (after_zero refl h.inside); feeds = h.feeds }

with_byte : (depth held b : ℕ) (broken : Bool) (bytes : List ℕ) (o : Option (Bool × List ℕ)) → (held == 47 && b == 42) ≡ false → (held == 42 && b == 47) ≡ false
    → MayEnd (suc depth) b (broken || (b == 10)) bytes o → MayEnd (suc depth) held broken (b ∷ bytes) o
with_byte depth held b broken bytes None e f h = tt
with_byte depth held b broken bytes (Some x) e f h = record { some = b ∷ h.some; inside = l.goes_on e f h.inside; feeds = h.feeds ∙ or_assoc broken (b == 10) (has_line_feed h.some) }

both_numbers : (a b m n : ℕ) → (a == m && b == n) ≡ true → (a ≡ m) × (b ≡ n)
both_numbers a b m n e = (grind (arith, nat_tests), grind (arith, nat_tests))

block_is : (depth held : ℕ) (broken : Bool) (text : List ℕ) → MayEnd (suc depth) held broken text (block (suc depth) held broken text)
unfolding block
block_is depth held broken [] = tt
block_is depth held broken (b ∷ bytes) =
    by_tests depth (held == 47 && b == 42) refl (held == 42 && b == 47) refl (λ d. block_is d 0 broken bytes) (block_is depth b (broken || (b == 10)) bytes)
  where
    by_tests : (depth : ℕ) (opening : Bool) → (held == 47 && b == 42) ≡ opening → (closing : Bool) → (held == 42 && b == 47) ≡ closing
        → ((d : ℕ) → MayEnd (suc d) 0 broken bytes (block (suc d) 0 broken bytes))
        → MayEnd (suc depth) b (broken || (b == 10)) bytes (block (suc depth) b (broken || (b == 10)) bytes)
        → MayEnd (suc depth) held broken (b ∷ bytes)
        (if opening then block (suc depth + 1) 0 broken bytes
        else (if closing then (if suc depth == 1 then Some (broken, bytes) else block (suc depth - 1) 0 broken bytes)
        else block (suc depth) b (broken || (b == 10)) bytes))
    by_tests depth true e closing f later same =
        let w = both_numbers held b 47 42 e in
        let deeper : suc depth + 1 ≡ suc (suc depth) = omega arith in
        rw (w.0, w.1, deeper) (with_opening depth broken bytes _ (later (suc depth)))
    by_tests zero false e true f later same =
        let w = both_numbers held b 42 47 f in
        rw (w.0, w.1) (record { some = 47 ∷ []; inside = l.closes l.outside; feeds = sym (or_false broken) })
    by_tests (suc depth) false e true f later same =
        let w = both_numbers held b 42 47 f in
        let higher : suc (suc depth) - 1 ≡ suc depth = omega arith in
        let inner : (suc (suc depth) == 1) ≡ false = grind (arith, nat_tests) in
        rw (w.0, w.1, higher, inner) (with_closing depth broken bytes _ (later depth))
    by_tests depth false e false f later same = with_byte depth held b broken bytes _ e f same

held_free : (depth b : ℕ) (broken : Bool) (text : List ℕ) → opens_block (b ∷ text) ≡ false → closes_block (b ∷ text) ≡ false → block depth b broken text ≡ block depth 0 broken text
unfolding block
held_free depth b broken [] e f = refl
held_free depth b broken (c ∷ text) e f = rw (e, f) refl

block_found : {depth : ℕ} {text some rest : List ℕ} → Inside (suc depth) text some rest → (broken : Bool) → block (suc depth) 0 broken text ≡ Some (broken || has_line_feed some, rest)
unfolding block
block_found {depth} (l.opening {text} {front = some} {rest} d) broken =
    let deeper : suc depth + 1 ≡ suc (suc depth) = omega arith in
    rw deeper (block_found d (broken || false) ∙ ap (λ v. Some (v, rest)) (or_assoc broken false (has_line_feed some)))
block_found (l.closes {depth = zero} l.outside) broken = refl
block_found (l.closes {depth = suc depth} {text} {front = some} {rest} d) broken =
    let higher : suc (suc depth) - 1 ≡ suc depth = omega arith in
    let inner : (suc (suc depth) == 1) ≡ false = grind (arith, nat_tests) in
    rw (higher, inner) (block_found d (broken || false) ∙ ap (λ v. Some (v, rest)) (or_assoc broken false (has_line_feed some)))
block_found {depth} (l.goes_on {b} {text} {front = some} {rest} e f d) broken =
    held_free (suc depth) b (broken || (b == 10)) text e f ∙ block_found d (broken || (b == 10)) ∙ ap (λ v. Some (v, rest)) (or_assoc broken (b == 10) (has_line_feed some))

inside_seam : {depth : ℕ} {text some rest : List ℕ} → Inside (suc depth) text some rest → Seam text rest
inside_seam (l.opening d) = seam_later (seam_later (inside_seam d))
inside_seam (l.closes {depth = zero} (l.outside {rest})) = seam_later (seam_first 47 rest (omega arith))
inside_seam (l.closes {depth = suc depth} d) = seam_later (seam_later (inside_seam d))
inside_seam (l.goes_on e f d) = seam_later (inside_seam d)

inside_text : {depth : ℕ} {text some rest : List ℕ} → Inside depth text some rest → text ≡ some ++ rest
inside_text l.outside = refl
inside_text (l.opening d) = ap (λ l. 47 ∷ 42 ∷ l) (inside_text d)
inside_text (l.closes d) = ap (λ l. 42 ∷ 47 ∷ l) (inside_text d)
inside_text (l.goes_on {b} e f d) = ap (λ l. b ∷ l) (inside_text d)

-- line comments

front_text : {test : ℕ → Bool} {text some rest : List ℕ} → Front test text some rest → text ≡ some ++ rest
front_text l.none = refl
front_text (l.more {b} e d) = ap (λ l. b ∷ l) (front_text d)

in_line_no_feed : (b : ℕ) → is_in_line b ≡ true → (b == 10) ≡ false
in_line_no_feed b e = grind (arith, nat_tests)

feed_ends : (b : ℕ) → (b == 10) ≡ true → is_in_line b ≡ false
feed_ends b e = grind (arith, nat_tests)

ends_feed : (b : ℕ) → is_in_line b ≡ false → (b == 10) ≡ true
ends_feed b e = grind (arith, nat_tests)

no_feed : {text some rest : List ℕ} → Front is_in_line text some rest → has_line_feed some ≡ false
no_feed l.none = refl
no_feed (l.more {b} e d) = rw (in_line_no_feed b e) (no_feed d)

line_is_over : (rest : List ℕ) → ends_line rest ≡ true → (front is_in_line rest ≡ []) × (behind is_in_line rest ≡ rest)
line_is_over [] e = ends_empty is_in_line
line_is_over (b ∷ rest) e = (front_stops is_in_line b rest (feed_ends b e), behind_stops is_in_line b rest (feed_ends b e))

behind_line : (text : List ℕ) → ends_line (behind is_in_line text) ≡ true
behind_line text = by_rest (behind is_in_line text) refl
  where
    by_rest : (rest : List ℕ) → behind is_in_line text ≡ rest → ends_line rest ≡ true
    by_rest [] e = refl
    by_rest (b ∷ rest) e = ends_feed b (behind_fails is_in_line text b rest e)

-- gaps

abbrev IsGap : List ℕ → Option (Bool × List ℕ) → Type 0
IsGap text o = IfSome o (λ x. (some : List ℕ) × Gap text some x.1 × (x.0 ≡ has_line_feed some))

line_is : (bytes : List ℕ) → (some : List ℕ) × Gap (47 ∷ 47 ∷ bytes) some (behind is_in_line bytes) × (false ≡ has_line_feed some)
line_is bytes = let d : Front is_in_line (47 ∷ 47 ∷ bytes) (47 ∷ 47 ∷ front is_in_line bytes) (behind is_in_line bytes) = l.more refl (l.more refl (front_of is_in_line bytes)) in
    (47 ∷ 47 ∷ front is_in_line bytes, l.line_comment refl d (behind_line bytes), sym (no_feed d))

block_gap : (bytes : List ℕ) → IsGap (47 ∷ 42 ∷ bytes) (block 1 0 false bytes)
block_gap bytes = by_found (block 1 0 false bytes) (block_is 0 0 false bytes)
  where
    by_found : (o : Option (Bool × List ℕ)) → MayEnd 1 0 false bytes o → IsGap (47 ∷ 42 ∷ bytes) o
    by_found None h = tt
    by_found (Some x) h = (47 ∷ 42 ∷ h.some, l.block_comment (after_zero refl h.inside), h.feeds)

comment_is : (text : List ℕ) → IsGap text (comment text)
unfolding comment
comment_is [] = tt
comment_is (a ∷ []) = tt
comment_is (a ∷ b ∷ bytes) = by_tests (a == 47 && b == 47) refl (a == 47 && b == 42) refl
  where
    by_tests : (line : Bool) → (a == 47 && b == 47) ≡ line → (opening : Bool) → (a == 47 && b == 42) ≡ opening
        → IsGap (a ∷ b ∷ bytes) (if line then Some (false, behind is_in_line bytes) else (if opening then block 1 0 false bytes else None))
    by_tests true e opening f = let w = both_numbers a b 47 47 e in rw (w.0, w.1) (line_is bytes)
    by_tests false e true f = let w = both_numbers a b 47 42 f in rw (w.0, w.1) (block_gap bytes)
    by_tests false e false f = tt

pub gap_is : (text : List ℕ) → IfSome (gap text) (λ x. (some : List ℕ) × Gap text some x.1 × (x.0 ≡ has_line_feed some))
unfolding gap
gap_is [] = tt
gap_is (b ∷ bytes) = by_test (is_white_space b) refl
  where
    by_test : (v : Bool) → is_white_space b ≡ v → IsGap (b ∷ bytes) (if v then Some (b == 10, bytes) else comment (b ∷ bytes))
    by_test true e = (b ∷ [], l.white_space e, sym (or_false (b == 10)))
    by_test false e = comment_is (b ∷ bytes)

space_found : (b : ℕ) (rest : List ℕ) → is_white_space b ≡ true → gap (b ∷ rest) ≡ Some (has_line_feed (b ∷ []), rest)
unfolding gap
space_found b rest e = rw e (ap (λ v. Some (v, rest)) (sym (or_false (b == 10))))

line_gap : (bytes : List ℕ) → gap (47 ∷ 47 ∷ bytes) ≡ Some (false, behind is_in_line (47 ∷ 47 ∷ bytes))
unfolding gap comment behind
line_gap bytes = refl

line_found : (text some rest : List ℕ) → opens_line text ≡ true → Front is_in_line text some rest → ends_line rest ≡ true → gap text ≡ Some (has_line_feed some, rest)
line_found [] some rest o d e = absurd (false≢true o)
line_found (a ∷ []) some rest o d e = absurd (false≢true o)
line_found (a ∷ b ∷ bytes) some rest o d e =
    let w = both_numbers a b 47 47 o in
    let same : a ∷ b ∷ bytes ≡ 47 ∷ 47 ∷ bytes = λ i. w.0 i ∷ w.1 i ∷ bytes in
    let over = line_is_over rest e in
    let past : behind is_in_line (47 ∷ 47 ∷ bytes) ≡ rest = ap (behind is_in_line) (sym same) ∙ (front_exact is_in_line d over.0 over.1).1 in
    ap gap same ∙ line_gap bytes ∙ (λ i. Some (sym (no_feed d) i, past i))

block_comment_gap : (bytes : List ℕ) → gap (47 ∷ 42 ∷ bytes) ≡ block 1 0 false bytes
unfolding gap comment
block_comment_gap bytes = refl

pub gap_found : {text some rest : List ℕ} → Gap text some rest → gap text ≡ Some (has_line_feed some, rest)
gap_found (l.white_space {b} {rest} e) = space_found b rest e
gap_found (l.line_comment {text} {front = some} {rest} o d e) = line_found text some rest o d e
gap_found (l.block_comment {text} d) = block_comment_gap text ∙ block_found d false

pub gap_text : {text some rest : List ℕ} → Gap text some rest → text ≡ some ++ rest
gap_text (l.white_space e) = refl
gap_text (l.line_comment o d e) = front_text d
gap_text (l.block_comment d) = ap (λ l. 47 ∷ 42 ∷ l) (inside_text d)

line_shorter : {text some rest : List ℕ} → opens_line text ≡ true → Front is_in_line text some rest → ends_line rest ≡ true → length rest < length text
line_shorter o (l.none {text = []}) e = absurd (false≢true o)
line_shorter o (l.none {text = a ∷ []}) e = absurd (false≢true o)
line_shorter o (l.none {text = a ∷ b ∷ bytes}) e = let w = both_numbers a b 47 47 o in let never : ⊥ = grind (arith, nat_tests) in absurd never
line_shorter o (l.more {text} {rest} f d) e = omega (arith, front_within d)
  where
    front_within : {text some rest : List ℕ} → Front is_in_line text some rest → length rest ≤ length text
    front_within l.none = omega arith
    front_within (l.more e d) = omega (arith, front_within d)

pub seam_shorter : {text rest : List ℕ} → Seam text rest → length rest < length text
seam_shorter {text} {rest} s = omega (arith, ap length s.joined, length-append s.front (s.byte ∷ rest))

pub gap_shorter : {text some rest : List ℕ} → Gap text some rest → length rest < length text
gap_shorter (l.white_space e) = omega arith
gap_shorter (l.line_comment o d e) = line_shorter o d e
gap_shorter (l.block_comment d) = omega (arith, seam_shorter (inside_seam d))

space_is_low : (b : ℕ) → is_white_space b ≡ true → b < 128
space_is_low b e = grind (arith, nat_tests)

utf8_at_line_end : (text some rest : List ℕ) → IsUtf8 text → text ≡ some ++ rest → ends_line rest ≡ true → IsUtf8 rest
utf8_at_line_end text some [] u e f = IsUtf8-nil
utf8_at_line_end text some (b ∷ rest) u e f =
    let feed : b ≡ 10 = eqb-true _ _ f in
    utf8_from some b rest (omega (arith, feed)) (subst IsUtf8 e u)

pub gap_utf8 : {text some rest : List ℕ} → IsUtf8 text → Gap text some rest → IsUtf8 rest
gap_utf8 u (l.white_space {b} {rest} e) = behind_seam (b ∷ rest) rest u (seam_first b rest (space_is_low b e))
gap_utf8 u (l.line_comment {text} {front = some} {rest} o d e) = utf8_at_line_end text some rest u (front_text d) e
gap_utf8 u (l.block_comment {text} {rest} d) = behind_seam (47 ∷ 42 ∷ text) rest u (seam_later (seam_later (inside_seam d)))

found_once : {o : Option (Bool × List ℕ)} {p q : Bool × List ℕ} → o ≡ Some p → o ≡ Some q → p ≡ q
found_once e f = cc

-- there is one gap at most
pub gap_once : {text some rest other after : List ℕ} → Gap text some rest → Gap text other after → (some ≡ other) × (rest ≡ after)
gap_once {text} {some} {rest} {other} {after} g h =
    let same : rest ≡ after = ap (λ x. x.1) (found_once (gap_found g) (gap_found h)) in
    let joined : some ++ rest ≡ other ++ rest = sym (gap_text g) ∙ gap_text h ∙ ap (λ l. other ++ l) (sym same) in
    (append_cancel_right some other rest joined, same)
