-- Levels of tokens, by which the readers' laws say what may come next.
use Rattle.std.specs.Prelude.{ℕ, Bool, if◌then◌else◌, List, [], ◌∷◌}
use Rattle.cad_grammar.specs.declared.token.Sign.{Sign}
use Rattle.cad_grammar.specs.declared.token.Sign.TheVariants as s
use Rattle.cad_syntax.specs.declared.keyword.Keyword.{Keyword}
use Rattle.cad_syntax.specs.declared.keyword.Keyword.TheVariants as k
use Rattle.cad_grammar.specs.declared.token.TokenKind.{TokenKind}
use Rattle.cad_grammar.specs.declared.token.TokenKind.TheVariants as kind
use Rattle.cad_grammar.specs.declared.token.Token.{Token}
use Rattle.cad_grammar.specs.declared.level.Level.{Level}
use Rattle.cad_grammar.specs.declared.level.Level.TheVariants as level
use Rattle.cad_grammar.specs.Spots.{Spot}
use Rattle.cad_grammar.specs.Levels.{kind_start}

-- the numbers of the levels, from the loosest on
abbrev pub level_number : Level → ℕ
level_number level.Conditional = 1
level_number level.Or = 2
level_number level.And = 3
level_number level.Comparison = 4
level_number level.Coalesce = 5
level_number level.BitOr = 6
level_number level.BitXor = 7
level_number level.BitAnd = 8
level_number level.Sum = 9
level_number level.Product = 10
level_number level.Cast = 11
level_number level.Prefix = 12
level_number level.Postfix = 13
level_number level.Primary = 14

-- The level at which a sign goes on after an expression, or 0. Some do so only with no line break before them.
abbrev pub sign_strength : Bool → Sign → ℕ
sign_strength broken s.Question = 1
sign_strength broken s.Or = 2
sign_strength broken s.And = 3
sign_strength broken s.Less = 4
sign_strength broken s.LessOrEqual = 4
sign_strength broken s.Greater = 4
sign_strength broken s.GreaterOrEqual = 4
sign_strength broken s.Equal = 4
sign_strength broken s.NotEqual = 4
sign_strength broken s.Coalesce = 5
sign_strength broken s.Bar = 6
sign_strength broken s.Caret = 7
sign_strength broken s.Ampersand = 8
sign_strength broken s.Plus = 9
sign_strength broken s.Minus = 9
sign_strength broken s.Star = 10
sign_strength broken s.Slash = 10
sign_strength broken s.Percent = 10
sign_strength broken s.AsOptional = 11
sign_strength broken s.AsForce = 11
sign_strength broken s.Dot = 13
sign_strength broken s.OptionalDot = 13
sign_strength broken s.OpenBracket = if broken then 0 else 13
sign_strength broken s.OpenParenthesis = if broken then 0 else 13
sign_strength broken s.Bang = if broken then 0 else 13
sign_strength broken _ = 0

abbrev pub kind_strength : Bool → TokenKind → ℕ
kind_strength broken (kind.Sign sign) = sign_strength broken sign
kind_strength broken (kind.Keyword k.As) = 11
kind_strength broken _ = 0

abbrev pub strength_of : List Token → ℕ
strength_of [] = 0
strength_of (t ∷ ts) = kind_strength t.after_break t.kind

-- that of the next token
abbrev pub token_strength : Spot → ℕ
token_strength p = strength_of p.tokens

abbrev pub start_of : List Token → ℕ
start_of [] = 0
start_of (t ∷ ts) = kind_start t.kind

abbrev pub start : Spot → ℕ
start p = start_of p.tokens
