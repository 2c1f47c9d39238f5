-- Gaps and tokens in turn: there is one way to go on, and what comes after can be put behind what came before.
use Rattle.std.proofs.Common.{◌≡◌, ℕ, ◌+◌, ◌-◌, ◌≤◌, ◌<◌, Bool, false, ◌||◌, List, [], ◌∷◌, ◌++◌, length, Option, Some, None, IfSome, IsUtf8, option_map, refl, sym, ap, ◌∙◌, subst, append-nil, length-append, arith}
use Rattle.std.specs.Borrow.{Bor}
use Rattle.std.specs.Str.{IsValidUpTo}
use Rattle.std.proofs.lemmas.Str.{utf8_valid_len-IsValidUpTo, utf8_valid_len-IsUtf8}
use Rattle.cad_grammar.specs.declared.token.TokenKind.{TokenKind}
use Rattle.cad_grammar.specs.declared.token.Token.{Token}
use Rattle.cad_grammar.specs.Lexes.{has_line_feed, Begins, Gap, Spot, begin, InTurn, Lexes, BeginsNothing, Stops}
use Rattle.cad_grammar.specs.Lexes as l
use Rattle.cad_lex.specs.Code.Reading.{gap, token, seen}
use Rattle.cad_lex.proofs.Gaps.{gap_is, gap_found, gap_once, gap_text, gap_shorter, gap_utf8}
use Rattle.cad_lex.proofs.Tokens.{begins_is, token_is, begins_shorter, begins_utf8, gap_is_no_token}

-- neither a gap nor a token begins
record Over (text : List ℕ) : Type 0 where
  no_gap : (front rest : List ℕ) → Gap text front rest → ⊥
  no_token : (kind : TokenKind) (rest : List ℕ) → Begins text kind rest → ⊥

found_once : {o : Option (TokenKind × List ℕ)} {p q : TokenKind × List ℕ} → o ≡ Some p → o ≡ Some q → p ≡ q
found_once e f = cc

found_never : {A : Type 0} {o : Option A} {p : A} → o ≡ None → o ≡ Some p → ⊥
found_never e f = cc

empty_is_over : (text : List ℕ) → text ≡ [] → Over text
empty_is_over text e = record {
  no_gap = λ front rest g. let h = gap_shorter g in omega (arith, h, ap length e);
  no_token = λ kind rest b. let h = begins_shorter b in omega (arith, h, ap length e);
}

token_once : {text rest after : List ℕ} {x y : TokenKind} → Begins text x rest → Begins text y after → (x ≡ y) × (rest ≡ after)
token_once a b = let q = found_once (begins_is a) (begins_is b) in (ap (λ p. p.0) q, ap (λ p. p.1) q)

same_token : (t u : Token) → t.kind ≡ u.kind → t.start ≡ u.start → t.end ≡ u.end → t.after_break ≡ u.after_break → t ≡ u
same_token t u k s e b = λ i. record { kind = k i; start = s i; end = e i; after_break = b i }

-- a line feed that stands before, or in the gap
abbrev past_gap : Spot → List ℕ → List ℕ → Spot
past_gap here front rest = record { at = here.at + length front; after_break = here.after_break || has_line_feed front; text = rest }

abbrev past_token : ℕ → List ℕ → Spot
past_token at rest = record { at = at; after_break = false; text = rest }

-- the same tokens, to the same end
ends_once : {here end stop : Spot} {ts us : List Token} → InTurn here ts end → Over end.text → InTurn here us stop → Over stop.text → (ts ≡ us) × (end ≡ stop)
ends_once l.nothing o l.nothing p = (refl, refl)
ends_once l.nothing o (l.gap g d) p = absurd (o.no_gap _ _ g)
ends_once l.nothing o (l.token s a b e d) p = absurd (o.no_token _ _ b)
ends_once (l.gap g d) o l.nothing p = absurd (p.no_gap _ _ g)
ends_once {here} {end} {stop} {ts} {us} (l.gap {front = some} {rest} g d) o (l.gap {front = other} {rest = after} h f) p =
    let w : (some ≡ other) × (rest ≡ after) = gap_once g h in
    ends_once d o (subst (λ x. InTurn x us stop) (λ i. past_gap here (sym w.0 i) (sym w.1 i)) f) p
ends_once (l.gap g d) o (l.token s a b e f) p = absurd (gap_is_no_token g b)
ends_once (l.token s a b e d) o l.nothing p = absurd (p.no_token _ _ b)
ends_once (l.token s a b e d) o (l.gap g f) p = absurd (gap_is_no_token g b)
ends_once {here} {end} {stop} (l.token {t} {rest} {tokens = ts} s a b e d) o (l.token {t = u} {rest = after} {tokens = us} s2 a2 b2 e2 f) p =
    let w : (t.kind ≡ u.kind) × (rest ≡ after) = token_once b b2 in
    let starts : t.start ≡ u.start = s ∙ sym s2 in
    let ends : t.end ≡ u.end = omega (arith, ap length w.1) in
    let same : t ≡ u = same_token t u w.0 starts ends (a ∙ sym a2) in
    let later : (ts ≡ us) × (end ≡ stop) = ends_once d o (subst (λ x. InTurn x us stop) (λ i. past_token (sym ends i) (sym w.1 i)) f) p in
    ((λ i. same i ∷ later.0 i), later.1)

-- what comes after, put behind what came before
pub joined : {here mid end : Spot} {ts us : List Token} → InTurn here ts mid → InTurn mid us end → InTurn here (ts ++ us) end
joined l.nothing f = f
joined (l.gap g d) f = l.gap g (joined d f)
joined (l.token s a b e d) f = l.token s a b e (joined d f)

-- laws

pub one_lexing_lem : (text : List ℕ) (a b : List Token) → Lexes text a → Lexes text b → a ≡ b
one_lexing_lem text a b f g = (ends_once f.turns (empty_is_over _ f.over) g.turns (empty_is_over _ g.over)).0

valid_is_not_bad : (text : List ℕ) (n : ℕ) → IsUtf8 text → IsValidUpTo text n → ⊥
valid_is_not_bad text n u v = let short = v.short in omega (arith, short, utf8_valid_len-IsUtf8 text u, utf8_valid_len-IsValidUpTo text n v)

stopped_over : {text : List ℕ} → BeginsNothing text → Over text
stopped_over b = record { no_gap = b.no_gap; no_token = b.no_token }

pub stops_alone : (text : List ℕ) (n : ℕ) (a : List Token) → Stops text n → Lexes text a → ⊥
stops_alone text n a (l.bad_byte v) g = valid_is_not_bad text n g.utf8 v
stops_alone text n a (l.nothing_begins u d e b) g =
    let w = ends_once d (stopped_over b) g.turns (empty_is_over _ g.over) in
    b.goes_on (ap (λ x. x.text) w.1 ∙ g.over)

pub one_stop_lem : (text : List ℕ) (m n : ℕ) → Stops text m → Stops text n → m ≡ n
one_stop_lem text m n (l.bad_byte v) (l.bad_byte w) = sym (utf8_valid_len-IsValidUpTo text m v) ∙ utf8_valid_len-IsValidUpTo text n w
one_stop_lem text m n (l.bad_byte v) (l.nothing_begins u d e b) = absurd (valid_is_not_bad text m u v)
one_stop_lem text m n (l.nothing_begins u d e b) (l.bad_byte v) = absurd (valid_is_not_bad text n u v)
one_stop_lem text m n (l.nothing_begins u d e b) (l.nothing_begins u2 d2 e2 b2) =
    sym e ∙ ap (λ x. x.at) (ends_once d (stopped_over b) d2 (stopped_over b2)).1 ∙ e2

-- the loop

-- the spot of a text before its last bytes
abbrev pub before : List ℕ → Bool → List ℕ → Spot
before text broken rest = record { at = length text - length rest; after_break = broken; text = rest }

self_minus : (n : ℕ) → n - n ≡ 0
self_minus n = omega arith

-- the loop's invariant: up to the rest the text is gaps and the tokens so far
pub record Read (text : List ℕ) (tokens : List Token) (broken : Bool) (rest : List ℕ) : Type 0 where
  pub utf8 : IsUtf8 text
  pub turns : InTurn (begin text) tokens (before text broken rest)
  pub within : length rest ≤ length text
  pub rest_utf8 : IsUtf8 rest

pub read_begun : (text : List ℕ) (tokens : List Token) → IsUtf8 text → tokens ≡ [] → Read text tokens false text
read_begun text tokens u none =
    let start : before text false text ≡ begin text = λ i. record { at = self_minus (length text) i; after_break = false; text = text } in
    subst (λ ts. Read text ts false text) (sym none)
    (record { utf8 = u; turns = subst (λ y. InTurn (begin text) [] y) (sym start) l.nothing; within = omega arith; rest_utf8 = u })

gap_more : (text : List ℕ) (tokens : List Token) (broken : Bool) (some from rest : List ℕ) → Read text tokens broken from → Gap from some rest → length some + length rest ≡ length from
    → Read text tokens (broken || has_line_feed some) rest
gap_more text tokens broken some from rest r g e =
    let within = r.within in
    let at : length text - length from + length some ≡ length text - length rest = omega (arith, e, within) in
    let more : InTurn (begin text) (tokens ++ []) (past_gap (before text broken from) some rest) = joined r.turns (l.gap g l.nothing) in
    let same : past_gap (before text broken from) some rest ≡ before text (broken || has_line_feed some) rest = λ i. record { at = at i; after_break = broken || has_line_feed some; text = rest } in
    record {
      utf8 = r.utf8;
      turns = subst (λ ts. InTurn (begin text) ts (before text (broken || has_line_feed some) rest)) (append-nil tokens) (subst (InTurn (begin text) (tokens ++ [])) same more);
      within = omega (arith, e, within);
      rest_utf8 = gap_utf8 r.rest_utf8 g;
    }

-- what the code finds
pub told : {A : Type 0} (found : Option (A × Bor (List ℕ))) (o : Option (A × List ℕ)) (x : A × Bor (List ℕ)) → option_map seen found ≡ o → found ≡ Some x → o ≡ Some (x.0, x.1.now)
told found o x e f = sym e ∙ ap (option_map seen) f

gap_told : (text rest : List ℕ) (feed : Bool) → gap text ≡ Some (feed, rest) → (some : List ℕ) × Gap text some rest × (feed ≡ has_line_feed some)
gap_told text rest feed e = subst (λ o. IfSome o (λ x. (some : List ℕ) × Gap text some x.1 × (x.0 ≡ has_line_feed some))) e (gap_is text)

pub gap_told_shorter : (text rest : List ℕ) (feed : Bool) → gap text ≡ Some (feed, rest) → length rest < length text
gap_told_shorter text rest feed e = let w = gap_told text rest feed e in gap_shorter w.1

begins_of : (text rest : List ℕ) (x : TokenKind) → token text ≡ Some (x, rest) → Begins text x rest
begins_of text rest x e = subst (λ o. IfSome o (λ y. Begins text y.0 y.1)) e (token_is text)

pub told_shorter : (text rest : List ℕ) (x : TokenKind) → token text ≡ Some (x, rest) → length rest < length text
told_shorter text rest x e = begins_shorter (begins_of text rest x e)

pub read_gap : (text : List ℕ) (tokens : List Token) (broken feed after : Bool) (from rest : List ℕ) → Read text tokens broken from → gap from ≡ Some (feed, rest) → after ≡ broken || feed → Read text tokens after rest
read_gap text tokens broken feed after from rest r e f =
    let w = gap_told from rest feed e in
    let lengths : length w.0 + length rest ≡ length from = sym (length-append w.0 rest) ∙ ap length (sym (gap_text w.1)) in
    subst (λ v. Read text tokens v rest) (sym (f ∙ ap (λ v. broken || v) w.2)) (gap_more text tokens broken w.0 from rest r w.1 lengths)

pub read_token : (text : List ℕ) (tokens : List Token) (broken : Bool) (from rest : List ℕ) (t : Token) (more : List Token) → Read text tokens broken from
    → token from ≡ Some (t.kind, rest) → t.start ≡ length text - length from → t.end ≡ length text - length rest → t.after_break ≡ broken
    → more ≡ tokens ++ t ∷ [] → Read text more false rest
read_token text tokens broken from rest t more r f s e a m =
    let b = begins_of from rest t.kind f in
    let less = begins_shorter b in
    let within = r.within in
    let longer : InTurn (begin text) (tokens ++ t ∷ []) (past_token t.end rest) = joined r.turns (l.token s a b (omega (arith, s, e, less, within)) l.nothing) in
    subst (λ ts. Read text ts false rest) (sym m)
    (record { utf8 = r.utf8; turns = subst (λ n. InTurn (begin text) (tokens ++ t ∷ []) (past_token n rest)) e longer; within = omega (arith, less, within); rest_utf8 = begins_utf8 r.rest_utf8 b })

pub read_all : (text : List ℕ) (tokens : List Token) (broken : Bool) (rest : List ℕ) → Read text tokens broken rest → rest ≡ [] → Lexes text tokens
read_all text tokens broken rest r e = record { utf8 = r.utf8; end = before text broken rest; turns = r.turns; over = e }

pub read_stops : (text : List ℕ) (tokens : List Token) (broken : Bool) (rest : List ℕ) → Read text tokens broken rest → (length rest ≡ 0 → ⊥) → gap rest ≡ None → token rest ≡ None → Stops text (length text - length rest)
read_stops text tokens broken rest r some e f =
    l.nothing_begins r.utf8 r.turns refl (record {
      goes_on = λ h. some (ap length h);
      no_gap = λ front after g. found_never e (gap_found g);
      no_token = λ x after b. found_never f (begins_is b);
    })

pub stops_before : (text : List ℕ) (n : ℕ) → IsValidUpTo text n → Stops text n
stops_before text n v = l.bad_byte v
