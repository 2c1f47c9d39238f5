-- `token` is the token at the front.
use Rattle.std.proofs.Common.{◌≡◌, ℕ, ◌+◌, ◌-◌, ◌*◌, ◌^◌, ◌<◌, ◌≤◌, ◌==◌, ◌&&◌, ◌||◌, Bool, true, false, if◌then◌else◌, nat_lt, List, ◌∷◌, length, Option, Some, None, IfSome, IsUtf8, option_map, refl, sym, ap, ◌∙◌, arith, subst}
use Rattle.std.proofs.Math.Nat.{pow-le-pow_right}
use Rattle.std.proofs.lemmas.Bool.{false≢true}
use Rattle.std.proofs.lemmas.Bool.Decides.{Decides-ltb, nat_tests}
use Rattle.cad_syntax.specs.declared.keyword.Keyword.{Keyword}
use Rattle.cad_grammar.specs.declared.token.TokenKind.{TokenKind}
use Rattle.cad_grammar.specs.declared.token.TokenKind.TheVariants as kind
use Rattle.cad_syntax.specs.Keywords.{keyword_spelling}
use Rattle.cad_syntax.specs.Names.{is_first_of_name, is_part_of_name}
use Rattle.cad_grammar.specs.Lexes.{is_white_space, begins_with_letter, opens_line, opens_block, radix_of, number, scaled, Front, Numeral, Quoted, Gap, Shape, Word, Whole, Fixed, Quotation, Mark, Shaped, Judged, Begins}
use Rattle.cad_grammar.specs.Lexes as l
use Rattle.cad_lex.specs.Code.Reading.{is_decimal, keyword, kind_by, word_kind, number_from, whole, fixed, power_of_ten, sign, single, with_rest, shape, judge, judged, token}
use Rattle.cad_lex.proofs.Keywords.{keyword_spells, keyword_found}
use Rattle.cad_lex.proofs.Numbers.{AreDecimal, number_is, number_found, below_power, power_is}
use Rattle.cad_lex.proofs.Numerals.{numeral_seam, are_decimal, front_seam}
use Rattle.cad_lex.proofs.Shapes.{shape_is, shaped_reaches}
use Rattle.cad_lex.proofs.Signs.{sign_seam}
use Rattle.cad_lex.proofs.Gaps.{seam_shorter}
use Rattle.cad_lex.proofs.Seams.{Seam, seam_first, seam_later, seam_behind, behind_seam}

-- what a fixed literal's shape promises
abbrev Fits : Shape → Type 0
Fits (Fixed digits decimals) = AreDecimal decimals × (length decimals ≤ 8)
Fits (Word w) = Unit {0}
Fits (Whole radix digits) = Unit {0}
Fits (Quotation content) = Unit {0}
Fits (Mark s) = Unit {0}

shaped_fits : {text : List ℕ} {s : Shape} {rest : List ℕ} → Shaped text s rest → Fits s
shaped_fits (l.word n d) = tt
shaped_fits (l.decimal d) = tt
shaped_fits (l.based e d) = tt
shaped_fits (l.pointed d f few) = (are_decimal f, few)
shaped_fits (l.quotation q) = tt
shaped_fits (l.mark e) = tt

-- kinds

kind_by_is : (w : List ℕ) (rest : List ℕ) (o : Option Keyword) → keyword w ≡ o → IfSome o (λ k. keyword_spelling k ≡ w) → Judged (Word w) rest (kind_by o w)
kind_by_is w rest (Some k) e h = l.keyword h
kind_by_is w rest None e h = l.name (λ k f. let c : Some k ≡ None = sym (keyword_found k) ∙ ap keyword f ∙ e in cc)

whole_is : (radix : ℕ) (digits rest : List ℕ) → IfSome (whole radix (number_from radix (Some 0) digits) rest) (Judged (Whole radix digits) rest)
unfolding whole
whole_is radix digits rest = by_test (begins_with_letter rest) refl
  where
    by_number : (o : Option ℕ) → begins_with_letter rest ≡ false → IfSome o (λ m. (number radix digits ≡ m) × (m < 2 ^ 128))
        → IfSome (option_map (λ n. kind.Whole n (radix == 16)) o) (Judged (Whole radix digits) rest)
    by_number None e h = tt
    by_number (Some m) e h = subst (λ n. Judged (Whole radix digits) rest (kind.Whole n (radix == 16))) h.0 (l.whole_literal e (omega (arith, h.0, h.1)))

    by_test : (v : Bool) → begins_with_letter rest ≡ v
        → IfSome (if v then None else option_map (λ n. kind.Whole n (radix == 16)) (number_from radix (Some 0) digits)) (Judged (Whole radix digits) rest)
    by_test true e = tt
    by_test false e = by_number (number_from radix (Some 0) digits) e (number_is radix 0 digits (omega arith))

lacking_power : (decimals : List ℕ) → power_of_ten (8 - length decimals) ≡ 10 ^ (8 - length decimals)
lacking_power decimals = power_is (8 - length decimals) (omega arith)

decimals_below : (decimals : List ℕ) → AreDecimal decimals → length decimals ≤ 8 → number 10 decimals < 10 ^ 8
decimals_below decimals small few =
    omega (arith, below_power 0 decimals small, pow-le-pow_right {n = 10} (omega arith) few)

abbrev IsFixed : List ℕ → List ℕ → List ℕ → Option TokenKind → Type 0
IsFixed digits decimals rest o = IfSome o (Judged (Fixed digits decimals) rest)

fixed_is : (digits decimals rest : List ℕ) → IsFixed digits decimals rest (fixed (number_from 10 (Some 0) digits) (number_from 10 (Some 0) decimals) (8 - length decimals))
unfolding fixed
fixed_is digits decimals rest = by_numbers (number_from 10 (Some 0) digits) (number_is 10 0 digits (omega arith)) (number_from 10 (Some 0) decimals) (number_is 10 0 decimals (omega arith))
  where
    by_test : (n d : ℕ) → number 10 digits ≡ n → number 10 decimals ≡ d → (v w : Bool) → nat_lt n (2 ^ 64) ≡ v
        → IsFixed digits decimals rest (if v && w then Some (kind.Fixed (n * 10 ^ 8 + d * power_of_ten (8 - length decimals))) else None)
    by_test n d e f true true g =
        let same : scaled digits decimals ≡ n * 10 ^ 8 + d * power_of_ten (8 - length decimals) = λ i. e i * 10 ^ 8 + f i * sym (lacking_power decimals) i in
        subst (λ m. Judged (Fixed digits decimals) rest (kind.Fixed m)) same (l.fixed_literal (omega (arith, e, (Decides-ltb n (2 ^ 64)).0 g)))
    by_test n d e f true false g = tt
    by_test n d e f false w g = tt

    by_numbers : (n : Option ℕ) → IfSome n (λ m. (number 10 digits ≡ m) × (m < 2 ^ 128)) → (d : Option ℕ) → IfSome d (λ m. (number 10 decimals ≡ m) × (m < 2 ^ 128))
        → IsFixed digits decimals rest (fixed n d (8 - length decimals))
    by_numbers None h d k = tt
    by_numbers (Some n) h None k = tt
    by_numbers (Some n) h (Some d) k = by_test n d h.0 k.0 (nat_lt n (2 ^ 64)) (nat_lt d (10 ^ 8)) refl

pub judge_is : (s : Shape) (rest : List ℕ) → IfSome (judge s rest) (Judged s rest)
unfolding judge word_kind
judge_is (Word w) rest = kind_by_is w rest (keyword w) refl (keyword_spells w)
judge_is (Whole radix digits) rest = whole_is radix digits rest
judge_is (Fixed digits decimals) rest = fixed_is digits decimals rest
judge_is (Quotation content) rest = l.text_literal
judge_is (Mark s) rest = l.sign

no_keyword : (w : List ℕ) → ((k : Keyword) → keyword_spelling k ≡ w → ⊥) → keyword w ≡ None
no_keyword w h = by_found (keyword w) (keyword_spells w)
  where
    by_found : (o : Option Keyword) → IfSome o (λ k. keyword_spelling k ≡ w) → o ≡ None
    by_found None f = refl
    by_found (Some k) f = absurd (h k f)

fixed_found : (digits decimals : List ℕ) → AreDecimal decimals → length decimals ≤ 8 → number 10 digits < 2 ^ 64
    → fixed (number_from 10 (Some 0) digits) (number_from 10 (Some 0) decimals) (8 - length decimals) ≡ Some (kind.Fixed (scaled digits decimals))
unfolding fixed
fixed_found digits decimals small few h =
    let below = decimals_below decimals small few in
    let e : number_from 10 (Some 0) digits ≡ Some (number 10 digits) = number_found 10 0 digits (omega (arith, h)) in
    let f : number_from 10 (Some 0) decimals ≡ Some (number 10 decimals) = number_found 10 0 decimals (omega (arith, below)) in
    let g : nat_lt (number 10 digits) (2 ^ 64) ≡ true = (Decides-ltb _ _).1 h in
    let k : nat_lt (number 10 decimals) (10 ^ 8) ≡ true = (Decides-ltb _ _).1 below in
    rw (e, f, g, k, lacking_power decimals) refl

pub judged_kind : {s : Shape} {rest : List ℕ} {x : TokenKind} → Fits s → Judged s rest x → judge s rest ≡ Some x
unfolding judge word_kind whole
judged_kind fits (l.name {bytes} {rest} h) = ap (λ o. Some (kind_by o bytes)) (no_keyword bytes h)
judged_kind fits (l.keyword {k} {bytes} {rest} e) = ap (λ o. Some (kind_by o bytes)) (sym (ap keyword e) ∙ keyword_found k)
judged_kind fits (l.whole_literal {radix} {digits} {rest} e h) =
    ap (λ v. if v then None else option_map (λ n. kind.Whole n (radix == 16)) (number_from radix (Some 0) digits)) e
    ∙ ap (option_map (λ n. kind.Whole n (radix == 16))) (number_found radix 0 digits h)
judged_kind fits (l.fixed_literal {digits} {decimals} {rest} h) = fixed_found digits decimals fits.0 fits.1 h
judged_kind fits (l.text_literal {content} {rest}) = refl
judged_kind fits (l.sign {s} {rest}) = refl

-- tokens

no_opening : (text : List ℕ) → (opens_line text || opens_block text) ≡ false → token text ≡ judged (shape text)
unfolding token
no_opening text e = ap (λ v. if v then None else judged (shape text)) e

pub opening_is_none : (text : List ℕ) → (opens_line text || opens_block text) ≡ true → token text ≡ None
unfolding token
opening_is_none text e = ap (λ v. if v then None else judged (shape text)) e

pub begins_is : {text : List ℕ} {x : TokenKind} {rest : List ℕ} → Begins text x rest → token text ≡ Some (x, rest)
begins_is {text} {x} {rest} b =
    let w = shaped_reaches b.shaped in
    let found : Shaped text w.0.0 w.0.1 = subst (λ o. IfSome o (λ x. Shaped text x.0 x.1)) w.1 (shape_is text) in
    let same : w.0 ≡ (b.shape, rest) = w.3 (b.longest w.0.0 w.0.1 found) in
    no_opening text b.no_comment ∙ ap judged (w.1 ∙ ap (λ y. Some y) same) ∙ ap (with_rest rest) (judged_kind (shaped_fits b.shaped) b.judged)

abbrev Began : List ℕ → Option (TokenKind × List ℕ) → Type 0
Began text o = IfSome o (λ x. Begins text x.0 x.1)

pub token_is : (text : List ℕ) → IfSome (token text) (λ x. Begins text x.0 x.1)
unfolding token
token_is text = by_opening (opens_line text || opens_block text) refl
  where
    by_judge : (opens_line text || opens_block text) ≡ false → (x : Shape × List ℕ) → shape text ≡ Some x → Shaped text x.0 x.1 → (o : Option TokenKind) → IfSome o (Judged x.0 x.1) → Began text (with_rest x.1 o)
    by_judge n x e h None j = tt
    by_judge n x e h (Some k) j = record {
      no_comment = n;
      shape = x.0;
      shaped = h;
      longest = λ other after d. let w = shaped_reaches d in let same : w.0 ≡ x = cc in omega (arith, w.2, ap (λ y. length y.1) same);
      judged = j;
    }

    by_shape : (opens_line text || opens_block text) ≡ false → (o : Option (Shape × List ℕ)) → shape text ≡ o → IfSome o (λ x. Shaped text x.0 x.1) → Began text (judged o)
    by_shape n None e h = tt
    by_shape n (Some x) e h = by_judge n x e h (judge x.0 x.1) (judge_is x.0 x.1)

    by_opening : (v : Bool) → (opens_line text || opens_block text) ≡ v → Began text (if v then None else judged (shape text))
    by_opening true n = tt
    by_opening false n = by_shape n (shape text) refl (shape_is text)

-- a token ends with an ASCII byte

part_is_low : (b : ℕ) → is_part_of_name b ≡ true → b < 128
part_is_low b h = grind (arith, nat_tests)

first_is_low : (b : ℕ) → is_first_of_name b ≡ true → b < 128
first_is_low b h = grind (arith, nat_tests)

word_seam : {text some rest : List ℕ} (b : ℕ) → b < 128 → Front is_part_of_name text some rest → Seam (b ∷ text) rest
word_seam b low (l.none {text}) = seam_first b text low
word_seam b low (l.more {b = c} e d) = seam_later (word_seam c (part_is_low c e) d)

quoted_seam : {text content rest : List ℕ} → Quoted text content rest → Seam text rest
quoted_seam (l.closing {rest}) = seam_first 34 rest (omega arith)
quoted_seam (l.plain e q) = seam_later (quoted_seam q)
quoted_seam (l.escape e q) = seam_later (seam_later (quoted_seam q))
quoted_seam (l.scalar_value d some few i q) = seam_later (seam_later (seam_later (front_seam d (seam_later (quoted_seam q)))))

radix_is_small : (b radix : ℕ) → radix_of b ≡ Some radix → radix ≤ 36
radix_is_small b radix e = grind (arith, nat_tests)

shaped_seam : {text : List ℕ} {s : Shape} {rest : List ℕ} → Shaped text s rest → Seam text rest
shaped_seam (l.word {b} n d) = word_seam b (first_is_low b n) d
shaped_seam (l.decimal d) = numeral_seam (omega arith) d
shaped_seam (l.based {letter} {radix} e d) = seam_later (seam_later (numeral_seam (radix_is_small letter radix e) d))
shaped_seam (l.pointed {text} {digits} {after} {decimals} {rest} d f few) = behind_point (numeral_seam (omega arith) d) (numeral_seam (omega arith) f)
  where
    over : {text inner rest : List ℕ} → Seam text inner → Seam inner rest → Seam text rest
    over {text} {inner} {rest} s t =
        subst (λ x. Seam x rest) (sym s.joined) (seam_behind s.front (seam_later t))

    behind_point : {text after rest : List ℕ} → Seam text (46 ∷ after) → Seam after rest → Seam text rest
    behind_point s t = over s (seam_later t)
shaped_seam (l.quotation q) = seam_later (quoted_seam q)
shaped_seam (l.mark {sign = s} {text} {rest} e) = subst (λ t. Seam t rest) (sym e) (sign_seam s rest)

pub begins_shorter : {text : List ℕ} {x : TokenKind} {rest : List ℕ} → Begins text x rest → length rest < length text
begins_shorter b = seam_shorter (shaped_seam b.shaped)

pub begins_utf8 : {text : List ℕ} {x : TokenKind} {rest : List ℕ} → IsUtf8 text → Begins text x rest → IsUtf8 rest
begins_utf8 {text} {x} {rest} u b = behind_seam text rest u (shaped_seam b.shaped)

-- a gap begins no token

space_opens_nothing : (b : ℕ) → is_white_space b ≡ true → (b == 47) ≡ false
space_opens_nothing b h = grind (arith, nat_tests)

space_is_no_start : (b : ℕ) → is_white_space b ≡ true → is_first_of_name b ≡ false
space_is_no_start b h = grind (arith, nat_tests)

space_is_no_digit : (b : ℕ) → is_white_space b ≡ true → is_decimal b ≡ false
space_is_no_digit b h = grind (arith, nat_tests)

space_is_no_quote : (b : ℕ) → is_white_space b ≡ true → (b == 34) ≡ false
space_is_no_quote b h = grind (arith, nat_tests)

space_is_no_sign : (b : ℕ) (rest : List ℕ) → is_white_space b ≡ true → sign b rest ≡ None
unfolding sign single
space_is_no_sign b rest h = grind (arith, nat_tests)

space_has_no_shape : (b : ℕ) (rest : List ℕ) → is_white_space b ≡ true → shape (b ∷ rest) ≡ None
unfolding shape
space_has_no_shape b rest h = rw (space_is_no_start b h, space_is_no_digit b h, space_is_no_quote b h, space_is_no_sign b rest h) refl

none_by : (v : Bool) (o : Option (TokenKind × List ℕ)) → o ≡ None → (if v then None else o) ≡ None
none_by true o e = refl
none_by false o e = e

space_begins_none : (b : ℕ) (rest : List ℕ) → is_white_space b ≡ true → token (b ∷ rest) ≡ None
unfolding token
space_begins_none b rest h = none_by _ _ (ap judged (space_has_no_shape b rest h))

line_opens : (text : List ℕ) → opens_line text ≡ true → (opens_line text || opens_block text) ≡ true
line_opens text e = ap (λ v. v || opens_block text) e

pub gap_is_no_token : {text some rest after : List ℕ} {x : TokenKind} → Gap text some rest → Begins text x after → ⊥
gap_is_no_token (l.white_space {b} {rest} e) t = let c = sym (begins_is t) ∙ space_begins_none b rest e in cc
gap_is_no_token (l.line_comment {text} o d e) t = false≢true (sym t.no_comment ∙ line_opens text o)
gap_is_no_token (l.block_comment d) t = false≢true (sym t.no_comment)
