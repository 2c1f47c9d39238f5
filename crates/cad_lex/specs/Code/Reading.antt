-- The lexer as a function on lists.
use Rattle.std.specs.Prelude.{ℕ, zero, suc, ◌&&◌, ◌||◌, ◌+◌, ◌-◌, ◌*◌, ◌^◌, Bool, false, List, [], ◌∷◌, ◌++◌, length, codes, encode_utf8, Option, Some, None, if◌then◌else◌, ◌==◌, nat_lt, nat_le, option_map}
use Rattle.std.specs.Char.{is_digit, digit_value}
use Rattle.std.specs.Borrow.{Bor}
use Rattle.std.specs.Str.{bytes_eq}
use Rattle.cad_syntax.specs.declared.keyword.Keyword.{Keyword}
use Rattle.cad_syntax.specs.declared.keyword.Keyword.TheVariants as k
use Rattle.cad_grammar.specs.declared.token.Sign.{Sign}
use Rattle.cad_grammar.specs.declared.token.Sign.TheVariants as s
use Rattle.cad_grammar.specs.declared.token.TokenKind.{TokenKind}
use Rattle.cad_grammar.specs.declared.token.TokenKind.TheVariants as kind
use Rattle.cad_syntax.specs.Names.{is_first_of_name, is_part_of_name}
use Rattle.cad_grammar.specs.Lexes.{is_white_space, is_in_line, is_underscore, is_hexadecimal, is_plain, escaped, radix_of, begins_with_letter, opens_line, opens_block, Shape, Word, Whole, Fixed, Quotation, Mark}

-- the bytes at the front that pass
unfoldable pub front : (ℕ → Bool) → List ℕ → List ℕ
front test [] = []
front test (b ∷ bytes) = if test b then b ∷ front test bytes else []

-- the bytes behind those
unfoldable pub behind : (ℕ → Bool) → List ℕ → List ℕ
behind test [] = []
behind test (b ∷ bytes) = if test b then behind test bytes else b ∷ bytes

abbrev pub with_rest : {A : Type 0} → List ℕ → Option A → Option (A × List ℕ)
with_rest rest = option_map (λ a. (a, rest))

-- Gaps

-- what follows the bytes that close so many block comments, and whether a line feed stands in them, or stood before; the byte
-- before is held where it can make a sign with the next
unfoldable pub block : ℕ → ℕ → Bool → List ℕ → Option (Bool × List ℕ)
block depth held broken [] = None
block depth held broken (b ∷ bytes) =
    if (held == 47) && (b == 42) then block (depth + 1) 0 broken bytes
    else (if (held == 42) && (b == 47) then (if depth == 1 then Some (broken, bytes) else block (depth - 1) 0 broken bytes)
    else block depth b (broken || (b == 10)) bytes)

unfoldable pub comment : List ℕ → Option (Bool × List ℕ)
comment [] = None
comment (a ∷ []) = None
comment (a ∷ b ∷ bytes) =
    if (a == 47) && (b == 47) then Some (false, behind is_in_line bytes)
    else (if (a == 47) && (b == 42) then block 1 0 false bytes
    else None)

-- what follows the gap at the front, and whether a line feed stands in it
unfoldable pub gap : List ℕ → Option (Bool × List ℕ)
gap [] = None
gap (b ∷ bytes) = if is_white_space b then Some (b == 10, bytes) else comment (b ∷ bytes)

-- Words

unfoldable pub of_two : List ℕ → Option Keyword
of_two w =
    if bytes_eq w (codes "as") then Some k.As
    else (if bytes_eq w (codes "if") then Some k.If
    else (if bytes_eq w (codes "in") then Some k.In
    else None))

unfoldable pub of_three : List ℕ → Option Keyword
of_three w =
    if bytes_eq w (codes "for") then Some k.For
    else (if bytes_eq w (codes "fun") then Some k.Fun
    else (if bytes_eq w (codes "let") then Some k.Let
    else (if bytes_eq w (codes "nil") then Some k.Nil
    else (if bytes_eq w (codes "pre") then Some k.Pre
    else (if bytes_eq w (codes "var") then Some k.Var
    else None)))))

unfoldable pub of_four : List ℕ → Option Keyword
of_four w =
    if bytes_eq w (codes "auth") then Some k.Auth
    else (if bytes_eq w (codes "case") then Some k.Case
    else (if bytes_eq w (codes "else") then Some k.Else
    else (if bytes_eq w (codes "emit") then Some k.Emit
    else (if bytes_eq w (codes "enum") then Some k.Enum
    else (if bytes_eq w (codes "init") then Some k.Init
    else (if bytes_eq w (codes "post") then Some k.Post
    else (if bytes_eq w (codes "self") then Some k.Self_
    else (if bytes_eq w (codes "true") then Some k.True
    else None))))))))

unfoldable pub of_five : List ℕ → Option Keyword
of_five w =
    if bytes_eq w (codes "break") then Some k.Break
    else (if bytes_eq w (codes "event") then Some k.Event
    else (if bytes_eq w (codes "false") then Some k.False
    else (if bytes_eq w (codes "while") then Some k.While
    else None)))

unfoldable pub of_six : List ℕ → Option Keyword
of_six w =
    if bytes_eq w (codes "access") then Some k.Access
    else (if bytes_eq w (codes "create") then Some k.Create
    else (if bytes_eq w (codes "import") then Some k.Import
    else (if bytes_eq w (codes "return") then Some k.Return
    else (if bytes_eq w (codes "struct") then Some k.Struct
    else (if bytes_eq w (codes "switch") then Some k.Switch
    else None)))))

unfoldable pub of_seven : List ℕ → Option Keyword
of_seven w =
    if bytes_eq w (codes "default") then Some k.Default
    else (if bytes_eq w (codes "destroy") then Some k.Destroy
    else (if bytes_eq w (codes "execute") then Some k.Execute
    else (if bytes_eq w (codes "prepare") then Some k.Prepare
    else None)))

unfoldable pub of_eight : List ℕ → Option Keyword
of_eight w =
    if bytes_eq w (codes "continue") then Some k.Continue
    else (if bytes_eq w (codes "contract") then Some k.Contract
    else (if bytes_eq w (codes "resource") then Some k.Resource
    else None))

unfoldable pub longer : List ℕ → Option Keyword
longer w =
    if bytes_eq w (codes "interface") then Some k.Interface
    else (if bytes_eq w (codes "transaction") then Some k.Transaction
    else None)

-- the keyword that is spelled so
unfoldable pub keyword : List ℕ → Option Keyword
keyword w =
    if length w == 2 then of_two w
    else (if length w == 3 then of_three w
    else (if length w == 4 then of_four w
    else (if length w == 5 then of_five w
    else (if length w == 6 then of_six w
    else (if length w == 7 then of_seven w
    else (if length w == 8 then of_eight w
    else longer w))))))

abbrev pub kind_by : Option Keyword → List ℕ → TokenKind
kind_by (Some keyword) w = kind.Keyword keyword
kind_by None w = kind.Name (record { 0 = w })

unfoldable pub word_kind : List ℕ → TokenKind
word_kind w = kind_by (keyword w) w

-- `as`, `as?` or `as!`
unfoldable pub cast : List ℕ → Shape × List ℕ
cast [] = (Word (codes "as"), [])
cast (b ∷ rest) =
    if b == 63 then (Mark s.AsOptional, rest)
    else (if b == 33 then (Mark s.AsForce, rest)
    else (Word (codes "as"), b ∷ rest))

unfoldable pub word_shape : List ℕ → List ℕ → Shape × List ℕ
word_shape w rest = if bytes_eq w (codes "as") then cast rest else (Word w, rest)

-- Numbers

abbrev pub is_decimal : ℕ → Bool
is_decimal b = is_digit b 10

-- the number with one digit more, where it is of 128 bits
unfoldable pub add_digit : ℕ → Option ℕ → ℕ → Option ℕ
add_digit radix None b = None
add_digit radix (Some n) b = if nat_lt (radix * n + digit_value b) (2 ^ 128) then Some (radix * n + digit_value b) else None

-- the number that digits write after those of n
unfoldable pub number_from : ℕ → Option ℕ → List ℕ → Option ℕ
number_from radix n [] = n
number_from radix n (b ∷ digits) = number_from radix (add_digit radix n b) digits

abbrev pub with_digit : ℕ → List ℕ × List ℕ → List ℕ × List ℕ
with_digit b x = (b ∷ x.0, x.1)

-- at most so many digits, with underscores between them, and what follows the last one; that was end so far
unfoldable pub digits_from : ℕ → ℕ → List ℕ → List ℕ → List ℕ × List ℕ
digits_from radix most end [] = ([], end)
digits_from radix most end (b ∷ bytes) =
    if most == 0 then ([], end)
    else (if is_digit b radix then with_digit b (digits_from radix (most - 1) bytes bytes)
    else (if is_underscore b then digits_from radix most end bytes
    else ([], end)))

abbrev pub begins_with_digit : ℕ → List ℕ → Bool
begins_with_digit radix [] = false
begins_with_digit radix (b ∷ rest) = is_digit b radix

abbrev pub with_radix : Option ℕ → List ℕ → Option (ℕ × List ℕ)
with_radix None text = None
with_radix (Some radix) text = if begins_with_digit radix text then Some (radix, text) else None

-- the radix that `0b`, `0o` or `0x` at the front tells, and what follows, which begins with a digit of it
unfoldable pub based : List ℕ → Option (ℕ × List ℕ)
based [] = None
based (a ∷ []) = None
based (a ∷ b ∷ text) = if a == 48 then with_radix (radix_of b) text else None

-- what follows a point at the front, which begins with a digit
unfoldable pub behind_point : List ℕ → Option (List ℕ)
behind_point [] = None
behind_point (b ∷ text) = if (b == 46) && begins_with_digit 10 text then Some text else None

abbrev pub with_shape : (List ℕ → Shape) → List ℕ × List ℕ → Shape × List ℕ
with_shape make x = (make x.0, x.1)

-- the whole literal of these digits before this rest, or the fixed literal where decimals follow
abbrev pub decimal_shape : List ℕ × List ℕ → Option (List ℕ) → Shape × List ℕ
decimal_shape x None = (Whole 10 x.0, x.1)
decimal_shape x (Some after) = with_shape (Fixed x.0) (digits_from 10 8 after after)

abbrev pub decimals_of : List ℕ × List ℕ → Shape × List ℕ
decimals_of x = decimal_shape x (behind_point x.1)

abbrev pub number_by : List ℕ → Option (ℕ × List ℕ) → Shape × List ℕ
number_by text None = decimals_of (digits_from 10 (length text) text text)
number_by text (Some x) = with_shape (Whole x.0) (digits_from x.0 (length x.1) x.1 x.1)

unfoldable pub number_shape : List ℕ → Shape × List ℕ
number_shape text = number_by text (based text)

-- what a whole literal is, before rest
unfoldable pub whole : ℕ → Option ℕ → List ℕ → Option TokenKind
whole radix n rest = if begins_with_letter rest then None else option_map (λ n. kind.Whole n (radix == 16)) n

-- 10^n, for n up to 8
unfoldable pub power_of_ten : ℕ → ℕ
power_of_ten n =
    if n == 0 then 1
    else (if n == 1 then 10
    else (if n == 2 then 100
    else (if n == 3 then 1000
    else (if n == 4 then 10000
    else (if n == 5 then 100000
    else (if n == 6 then 1000000
    else (if n == 7 then 10000000
    else 100000000)))))))

-- what a fixed literal is that lacks so many decimals
unfoldable pub fixed : Option ℕ → Option ℕ → ℕ → Option TokenKind
fixed None d lacking = None
fixed (Some n) None lacking = None
fixed (Some n) (Some d) lacking = if nat_lt n (2 ^ 64) && nat_lt d (10 ^ 8) then Some (kind.Fixed (n * 10 ^ 8 + d * power_of_ten lacking)) else None

-- Quotations

-- a number that is the code of a character
unfoldable pub code_of : Option ℕ → Option ℕ
code_of None = None
code_of (Some n) = if nat_lt n 55296 then Some n else (if nat_le 57344 n && nat_lt n 1114112 then Some n else None)

-- the character of so many hexadecimal digits before `}`, and what follows that
unfoldable pub scalar_of : List ℕ → List ℕ → Option (ℕ × List ℕ)
scalar_of digits [] = None
scalar_of digits (b ∷ after) =
    if (b == 125) && (nat_lt 0 (length digits) && nat_le (length digits) 6) then with_rest after (code_of (number_from 16 (Some 0) digits)) else None

unfoldable pub scalar_escape : List ℕ → Option (ℕ × List ℕ)
scalar_escape [] = None
scalar_escape (b ∷ text) = if b == 123 then scalar_of (front is_hexadecimal text) (behind is_hexadecimal text) else None

-- the character that an escape writes behind its backslash, and what follows it
unfoldable pub escape : List ℕ → Option (ℕ × List ℕ)
escape [] = None
escape (b ∷ text) = if b == 117 then scalar_escape text else with_rest text (escaped b)

abbrev pub with_content : List ℕ → Option (List ℕ × List ℕ) → Option (List ℕ × List ℕ)
with_content content = option_map (λ x. (content ++ x.0, x.1))

abbrev pub behind_escape : (List ℕ → Option (List ℕ × List ℕ)) → Option (ℕ × List ℕ) → Option (List ℕ × List ℕ)
behind_escape more None = None
behind_escape more (Some x) = with_content (encode_utf8 x.0) (more x.1)

-- the content from a quote or a backslash on, and what follows the closing quote
unfoldable pub behind_plain : (List ℕ → Option (List ℕ × List ℕ)) → List ℕ → Option (List ℕ × List ℕ)
behind_plain more [] = None
behind_plain more (b ∷ rest) = if b == 34 then Some ([], rest) else (if b == 92 then behind_escape more (escape rest) else None)

-- the content up to the closing quote, in so many turns at most, and what follows that quote
unfoldable pub quoted : ℕ → List ℕ → Option (List ℕ × List ℕ)
quoted zero text = None
quoted (suc turns) text = with_content (front is_plain text) (behind_plain (quoted turns) (behind is_plain text))

-- Signs

-- the first sign where this byte comes next, else the second
unfoldable pub longer_by : ℕ → Sign → Sign → List ℕ → Sign × List ℕ
longer_by byte long short [] = (short, [])
longer_by byte long short (b ∷ rest) = if b == byte then (long, rest) else (short, b ∷ rest)

-- the first where the first byte comes next, the second where the second does, else the third
unfoldable pub longer_by_two : ℕ → Sign → ℕ → Sign → Sign → List ℕ → Sign × List ℕ
longer_by_two first long second other short [] = (short, [])
longer_by_two first long second other short (b ∷ rest) =
    if b == first then (long, rest)
    else (if b == second then (other, rest)
    else (short, b ∷ rest))

-- the sign behind `<`
unfoldable pub behind_less : List ℕ → Sign × List ℕ
behind_less [] = (s.Less, [])
behind_less (b ∷ rest) =
    if b == 45 then longer_by_two 62 s.Swap 33 s.ForceMove s.Move rest
    else longer_by 61 s.LessOrEqual s.Less (b ∷ rest)

-- the sign of one byte that begins no other
unfoldable pub single : ℕ → Option Sign
single b =
    if b == 94 then Some s.Caret
    else (if b == 43 then Some s.Plus
    else (if b == 42 then Some s.Star
    else (if b == 47 then Some s.Slash
    else (if b == 37 then Some s.Percent
    else (if b == 46 then Some s.Dot
    else (if b == 44 then Some s.Comma
    else (if b == 58 then Some s.Colon
    else (if b == 59 then Some s.Semicolon
    else (if b == 40 then Some s.OpenParenthesis
    else (if b == 41 then Some s.CloseParenthesis
    else (if b == 91 then Some s.OpenBracket
    else (if b == 93 then Some s.CloseBracket
    else (if b == 123 then Some s.OpenBrace
    else (if b == 125 then Some s.CloseBrace
    else (if b == 64 then Some s.At
    else None)))))))))))))))

-- the longest sign at the front
unfoldable pub sign : ℕ → List ℕ → Option (Sign × List ℕ)
sign b rest =
    if b == 60 then Some (behind_less rest)
    else (if b == 62 then Some (longer_by 61 s.GreaterOrEqual s.Greater rest)
    else (if b == 61 then Some (longer_by 61 s.Equal s.Assign rest)
    else (if b == 33 then Some (longer_by 61 s.NotEqual s.Bang rest)
    else (if b == 38 then Some (longer_by 38 s.And s.Ampersand rest)
    else (if b == 124 then Some (longer_by 124 s.Or s.Bar rest)
    else (if b == 45 then Some (longer_by 62 s.Arrow s.Minus rest)
    else (if b == 63 then Some (longer_by_two 63 s.Coalesce 46 s.OptionalDot s.Question rest)
    else with_rest rest (single b))))))))

-- Tokens

-- the longest shape at the front, and what follows it
unfoldable pub shape : List ℕ → Option (Shape × List ℕ)
shape [] = None
shape (b ∷ bytes) =
    if is_first_of_name b then Some (word_shape (front is_part_of_name (b ∷ bytes)) (behind is_part_of_name (b ∷ bytes)))
    else (if is_decimal b then Some (number_shape (b ∷ bytes))
    else (if b == 34 then option_map (λ x. (Quotation x.0, x.1)) (quoted (length bytes) bytes)
    else option_map (λ x. (Mark x.0, x.1)) (sign b bytes)))

-- the kind of a token of this shape
unfoldable pub judge : Shape → List ℕ → Option TokenKind
judge (Word w) rest = Some (word_kind w)
judge (Whole radix digits) rest = whole radix (number_from radix (Some 0) digits) rest
judge (Fixed digits decimals) rest = fixed (number_from 10 (Some 0) digits) (number_from 10 (Some 0) decimals) (8 - length decimals)
judge (Quotation content) rest = Some (kind.Text content)
judge (Mark s) rest = Some (kind.Sign s)

abbrev pub judged : Option (Shape × List ℕ) → Option (TokenKind × List ℕ)
judged None = None
judged (Some x) = with_rest x.1 (judge x.0 x.1)

-- the token at the front, and what follows it
unfoldable pub token : List ℕ → Option (TokenKind × List ℕ)
token text = if opens_line text || opens_block text then None else judged (shape text)

-- what was found and what follows it, without where that lies in memory
abbrev pub seen : {A : Type 0} → A × Bor (List ℕ) → A × List ℕ
seen x = (x.0, x.1.now)
