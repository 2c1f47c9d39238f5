-- The tokens of a text: it is gaps and tokens in turn, and each token is the longest that begins there.
use Rattle.std.specs.Prelude.{◌≡◌, ℕ, suc, ◌+◌, ◌-◌, ◌*◌, ◌^◌, ◌≤◌, ◌<◌, Bool, true, false, ◌&&◌, ◌||◌, ◌==◌, not, if◌then◌else◌, List, [], ◌∷◌, ◌++◌, length, fold, codes, encode_utf8, Option, Some, None, IsUtf8}
use Rattle.std.specs.List.{list_any}
use Rattle.std.specs.Char.{is_ascii_alphabetic, is_digit, digit_value, IsScalar}
use Rattle.std.specs.Str.{IsValidUpTo}
use Rattle.cad_syntax.specs.declared.keyword.Keyword.{Keyword}
use Rattle.cad_grammar.specs.declared.token.Sign.{Sign}
use Rattle.cad_grammar.specs.declared.token.Sign.TheVariants as s
use Rattle.cad_grammar.specs.declared.token.TokenKind.{TokenKind}
use Rattle.cad_grammar.specs.declared.token.TokenKind.TheVariants as kind
use Rattle.cad_grammar.specs.declared.token.Token.{Token}
use Rattle.cad_syntax.specs.Keywords.{keyword_spelling}
use Rattle.cad_syntax.specs.Names.{is_first_of_name, is_part_of_name}

abbrev pub sign_spelling : Sign → List ℕ
sign_spelling s.Move = codes "<-"
sign_spelling s.ForceMove = codes "<-!"
sign_spelling s.Swap = codes "<->"
sign_spelling s.LessOrEqual = codes "<="
sign_spelling s.Less = codes "<"
sign_spelling s.GreaterOrEqual = codes ">="
sign_spelling s.Greater = codes ">"
sign_spelling s.Equal = codes "=="
sign_spelling s.Assign = codes "="
sign_spelling s.NotEqual = codes "!="
sign_spelling s.Bang = codes "!"
sign_spelling s.And = codes "&&"
sign_spelling s.Ampersand = codes "&"
sign_spelling s.Or = codes "||"
sign_spelling s.Bar = codes "|"
sign_spelling s.Caret = codes "^"
sign_spelling s.Plus = codes "+"
sign_spelling s.Arrow = codes "->"
sign_spelling s.Minus = codes "-"
sign_spelling s.Star = codes "*"
sign_spelling s.Slash = codes "/"
sign_spelling s.Percent = codes "%"
sign_spelling s.Coalesce = codes "??"
sign_spelling s.OptionalDot = codes "?."
sign_spelling s.Question = codes "?"
sign_spelling s.Dot = codes "."
sign_spelling s.Comma = codes ","
sign_spelling s.Colon = codes ":"
sign_spelling s.Semicolon = codes ";"
sign_spelling s.OpenParenthesis = codes "("
sign_spelling s.CloseParenthesis = codes ")"
sign_spelling s.OpenBracket = codes "["
sign_spelling s.CloseBracket = codes "]"
sign_spelling s.OpenBrace = codes "{"
sign_spelling s.CloseBrace = codes "}"
sign_spelling s.At = codes "@"
sign_spelling s.AsOptional = codes "as?"
sign_spelling s.AsForce = codes "as!"

-- Bytes

-- space, tab, carriage return and line feed
abbrev pub is_white_space : ℕ → Bool
is_white_space b = ((b == 32) || (b == 9)) || ((b == 13) || (b == 10))

-- no line feed
abbrev pub is_in_line : ℕ → Bool
is_in_line b = not (b == 10)

abbrev pub is_underscore : ℕ → Bool
is_underscore b = b == 95

abbrev pub is_hexadecimal : ℕ → Bool
is_hexadecimal b = is_digit b 16

-- what stands for itself in a quotation: no quote, no backslash and no line feed
abbrev pub is_plain : ℕ → Bool
is_plain b = not ((b == 34) || ((b == 92) || (b == 10)))

-- what the letter behind a backslash stands for: `\0`, `\t`, `\n`, `\r`, `\"`, `\'` and `\\`
abbrev pub escaped : ℕ → Option ℕ
escaped b =
    if b == 48 then Some 0
    else (if b == 116 then Some 9
    else (if b == 110 then Some 10
    else (if b == 114 then Some 13
    else (if (b == 34) || ((b == 39) || (b == 92)) then Some b
    else None))))

-- the radix of the letter in `0b`, `0o` and `0x`
abbrev pub radix_of : ℕ → Option ℕ
radix_of b = if b == 98 then Some 2 else (if b == 111 then Some 8 else (if b == 120 then Some 16 else None))

-- What a text begins with

abbrev pub begins_with_letter : List ℕ → Bool
begins_with_letter [] = false
begins_with_letter (b ∷ rest) = is_ascii_alphabetic b

abbrev pub begins_with_two : ℕ → ℕ → List ℕ → Bool
begins_with_two first second [] = false
begins_with_two first second (a ∷ []) = false
begins_with_two first second (a ∷ b ∷ rest) = (a == first) && (b == second)

-- `/*`, `*/` and `//`
abbrev pub opens_block : List ℕ → Bool
opens_block = begins_with_two 47 42

abbrev pub closes_block : List ℕ → Bool
closes_block = begins_with_two 42 47

abbrev pub opens_line : List ℕ → Bool
opens_line = begins_with_two 47 47

-- the text is over, or a line feed comes
abbrev pub ends_line : List ℕ → Bool
ends_line [] = true
ends_line (b ∷ rest) = b == 10

abbrev pub has_line_feed : List ℕ → Bool
has_line_feed = list_any (λ b. b == 10)

-- Front test text front rest: the text is front, whose bytes all pass the test, and then rest.
pub data Front (test : ℕ → Bool) : List ℕ → List ℕ → List ℕ → Type 0 where
  none : {text : List ℕ} → Front test text [] text
  more : {b : ℕ} {text front rest : List ℕ} → test b ≡ true → Front test text front rest → Front test (b ∷ text) (b ∷ front) rest

-- Numbers

-- the number that digits write
abbrev pub number : ℕ → List ℕ → ℕ
number radix = fold (λ n b. radix * n + digit_value b) 0

-- the same scaled by 10^8, for digits before a point and at most eight digits behind it
abbrev pub scaled : List ℕ → List ℕ → ℕ
scaled digits decimals = number 10 digits * 10 ^ 8 + number 10 decimals * 10 ^ (8 - length decimals)

-- Numeral radix text digits rest: the text is these digits, at least one, with underscores between them, and then rest.
pub data Numeral (radix : ℕ) : List ℕ → List ℕ → List ℕ → Type 0 where
  last : {b : ℕ} {rest : List ℕ} → is_digit b radix ≡ true → Numeral radix (b ∷ rest) (b ∷ []) rest
  more_digits : {b : ℕ} {text underscores after digits rest : List ℕ}
      → is_digit b radix ≡ true → Front is_underscore text underscores after → Numeral radix after digits rest
      → Numeral radix (b ∷ text) (b ∷ digits) rest

-- Quotations

-- Quoted text content rest: the text is what writes this content, the closing quote, and then rest.
pub data Quoted : List ℕ → List ℕ → List ℕ → Type 0 where
  closing : {rest : List ℕ} → Quoted (34 ∷ rest) [] rest
  plain : {b : ℕ} {text content rest : List ℕ} → is_plain b ≡ true → Quoted text content rest → Quoted (b ∷ text) (b ∷ content) rest
  escape : {b c : ℕ} {text content rest : List ℕ} → escaped b ≡ Some c → Quoted text content rest → Quoted (92 ∷ b ∷ text) (c ∷ content) rest
  -- `\u{`, the digits of a Unicode scalar value, and `}`
  scalar_value : {text digits after content rest : List ℕ}
      → Front is_hexadecimal text digits (125 ∷ after) → 1 ≤ length digits → length digits ≤ 6 → IsScalar (number 16 digits)
      → Quoted after content rest
      → Quoted (92 ∷ 117 ∷ 123 ∷ text) (encode_utf8 (number 16 digits) ++ content) rest

-- Gaps

-- Inside depth text front rest: the text is front, which closes so many block comments, and then rest.
pub data Inside : ℕ → List ℕ → List ℕ → List ℕ → Type 0 where
  outside : {rest : List ℕ} → Inside 0 rest [] rest
  opening : {depth : ℕ} {text front rest : List ℕ} → Inside (suc (suc depth)) text front rest → Inside (suc depth) (47 ∷ 42 ∷ text) (47 ∷ 42 ∷ front) rest
  closes : {depth : ℕ} {text front rest : List ℕ} → Inside depth text front rest → Inside (suc depth) (42 ∷ 47 ∷ text) (42 ∷ 47 ∷ front) rest
  goes_on : {depth b : ℕ} {text front rest : List ℕ}
      → opens_block (b ∷ text) ≡ false → closes_block (b ∷ text) ≡ false → Inside (suc depth) text front rest
      → Inside (suc depth) (b ∷ text) (b ∷ front) rest

-- Gap text front rest: the text is front, which stands between tokens, and then rest.
pub data Gap : List ℕ → List ℕ → List ℕ → Type 0 where
  white_space : {b : ℕ} {rest : List ℕ} → is_white_space b ≡ true → Gap (b ∷ rest) (b ∷ []) rest
  line_comment : {text front rest : List ℕ} → opens_line text ≡ true → Front is_in_line text front rest → ends_line rest ≡ true → Gap text front rest
  block_comment : {text front rest : List ℕ} → Inside 1 text front rest → Gap (47 ∷ 42 ∷ text) (47 ∷ 42 ∷ front) rest

-- Tokens

-- what a token is by its form alone
pub data Shape : Type 0 where
  Word : List ℕ → Shape
  -- the radix and the digits
  Whole : ℕ → List ℕ → Shape
  -- the digits before the point and behind it
  Fixed : List ℕ → List ℕ → Shape
  Quotation : List ℕ → Shape
  Mark : Sign → Shape

-- Shaped text shape rest: the text is bytes of this shape, and then rest.
pub data Shaped : List ℕ → Shape → List ℕ → Type 0 where
  word : {b : ℕ} {text front rest : List ℕ} → is_first_of_name b ≡ true → Front is_part_of_name text front rest → Shaped (b ∷ text) (Word (b ∷ front)) rest
  decimal : {text digits rest : List ℕ} → Numeral 10 text digits rest → Shaped text (Whole 10 digits) rest
  based : {letter radix : ℕ} {text digits rest : List ℕ}
      → radix_of letter ≡ Some radix → Numeral radix text digits rest → Shaped (48 ∷ letter ∷ text) (Whole radix digits) rest
  pointed : {text digits after decimals rest : List ℕ}
      → Numeral 10 text digits (46 ∷ after) → Numeral 10 after decimals rest → length decimals ≤ 8 → Shaped text (Fixed digits decimals) rest
  quotation : {text content rest : List ℕ} → Quoted text content rest → Shaped (34 ∷ text) (Quotation content) rest
  mark : {sign : Sign} {text rest : List ℕ} → text ≡ sign_spelling sign ++ rest → Shaped text (Mark sign) rest

-- Judged shape rest kind: bytes of this shape before rest are a token of this kind.
pub data Judged : Shape → List ℕ → TokenKind → Type 0 where
  name : {bytes rest : List ℕ} → ((k : Keyword) → keyword_spelling k ≡ bytes → ⊥) → Judged (Word bytes) rest (kind.Name (record { 0 = bytes }))
  keyword : {k : Keyword} {bytes rest : List ℕ} → keyword_spelling k ≡ bytes → Judged (Word bytes) rest (kind.Keyword k)
  -- a letter may not follow
  whole_literal : {radix : ℕ} {digits rest : List ℕ}
      → begins_with_letter rest ≡ false → number radix digits < 2 ^ 128 → Judged (Whole radix digits) rest (kind.Whole (number radix digits) (radix == 16))
  fixed_literal : {digits decimals rest : List ℕ} → number 10 digits < 2 ^ 64 → Judged (Fixed digits decimals) rest (kind.Fixed (scaled digits decimals))
  text_literal : {content rest : List ℕ} → Judged (Quotation content) rest (kind.Text content)
  sign : {s : Sign} {rest : List ℕ} → Judged (Mark s) rest (kind.Sign s)

-- The text begins with a token of this kind, and rest follows it: no comment opens there, and of all shapes that begin there
-- its own is the longest.
pub record Begins (text : List ℕ) (kind : TokenKind) (rest : List ℕ) : Type 0 where
  pub no_comment : (opens_line text || opens_block text) ≡ false
  pub shape : Shape
  pub shaped : Shaped text shape rest
  pub longest : (other : Shape) (after : List ℕ) → Shaped text other after → length rest ≤ length after
  pub judged : Judged shape rest kind

-- A place in a text, what stands from there on, and whether a line feed stands between the place and the last token before
-- it, or the text's begin.
pub record Spot : Type 0 where
  pub at : ℕ
  pub after_break : Bool
  pub text : List ℕ

abbrev pub begin : List ℕ → Spot
begin text = record { at = 0; after_break = false; text = text }

-- InTurn from tokens to: between the two spots stand gaps and these tokens in turn.
pub data InTurn : Spot → List Token → Spot → Type 0 where
  nothing : {here : Spot} → InTurn here [] here
  gap : {here end : Spot} {front rest : List ℕ} {tokens : List Token}
      → Gap here.text front rest
      → InTurn (record { at = here.at + length front; after_break = here.after_break || has_line_feed front; text = rest }) tokens end
      → InTurn here tokens end
  token : {here end : Spot} {t : Token} {rest : List ℕ} {tokens : List Token}
      → t.start ≡ here.at → t.after_break ≡ here.after_break → Begins here.text t.kind rest → t.end + length rest ≡ t.start + length here.text
      → InTurn (record { at = t.end; after_break = false; text = rest }) tokens end
      → InTurn here (t ∷ tokens) end

-- These are the tokens of the text, which is UTF-8.
pub record Lexes (text : List ℕ) (tokens : List Token) : Type 0 where
  pub utf8 : IsUtf8 text
  pub end : Spot
  pub turns : InTurn (begin text) tokens end
  pub over : end.text ≡ []

-- The text isn't over, and neither a gap nor a token begins.
pub record BeginsNothing (text : List ℕ) : Type 0 where
  pub goes_on : text ≡ [] → ⊥
  pub no_gap : (front rest : List ℕ) → Gap text front rest → ⊥
  pub no_token : (kind : TokenKind) (rest : List ℕ) → Begins text kind rest → ⊥

-- The text has no tokens, and n is the place of the fault: that of the first byte that isn't UTF-8; in UTF-8 that where
-- nothing begins, behind gaps and tokens in turn.
pub data Stops (text : List ℕ) (n : ℕ) : Type 0 where
  bad_byte : IsValidUpTo text n → Stops text n
  nothing_begins : {tokens : List Token} {end : Spot} → IsUtf8 text → InTurn (begin text) tokens end → end.at ≡ n → BeginsNothing end.text → Stops text n
