-- Whether the tokens behind a `<` may be type arguments that a `(` follows: a walk over them that takes each once. It counts the
-- `<` that are open, and ends with `false` where a token comes that no type has, or that none has behind a `>`, and where more
-- `<` are opened than nestings are left.
use Rattle.std.specs.Prelude.{ℕ, Bool, true, false, ◌==◌, ◌+◌, ◌-◌, if◌then◌else◌, List, [], ◌∷◌}
use Rattle.cad_grammar.specs.declared.token.Sign.{Sign}
use Rattle.cad_grammar.specs.declared.token.Sign.TheVariants as s
use Rattle.cad_syntax.specs.declared.keyword.Keyword.TheVariants as k
use Rattle.cad_grammar.specs.declared.token.TokenKind.{TokenKind}
use Rattle.cad_grammar.specs.declared.token.TokenKind.TheVariants as kind
use Rattle.cad_grammar.specs.declared.token.Token.{Token}
use Rattle.cad_grammar.specs.Spots.{Spot}
use Rattle.cad_parse_expr.specs.declared.closing.Mark.{Mark}
use Rattle.cad_parse_expr.specs.declared.closing.Mark.TheVariants as mark

abbrev pub sign_mark : Sign → Mark
sign_mark s.Less = mark.Opens
sign_mark s.Greater = mark.Closes
sign_mark s.OpenParenthesis = mark.Begins
sign_mark s.OpenBracket = mark.Begins
sign_mark s.OpenBrace = mark.Begins
sign_mark s.Dot = mark.Begins
sign_mark s.Ampersand = mark.Begins
sign_mark s.Bar = mark.Begins
sign_mark s.At = mark.Begins
sign_mark s.CloseParenthesis = mark.Follows
sign_mark s.CloseBracket = mark.Follows
sign_mark s.CloseBrace = mark.Follows
sign_mark s.Comma = mark.Follows
sign_mark s.Colon = mark.Follows
sign_mark s.Question = mark.Follows
sign_mark s.Coalesce = mark.Follows
sign_mark _ = mark.Other

abbrev pub mark_of : TokenKind → Mark
mark_of (kind.Name n) = mark.Begins
mark_of (kind.Keyword k.Auth) = mark.Begins
mark_of (kind.Sign sign) = sign_mark sign
mark_of _ = mark.Other

abbrev pub is_parenthesis : TokenKind → Bool
is_parenthesis (kind.Sign s.OpenParenthesis) = true
is_parenthesis _ = false

-- whether a `(` comes next
abbrev pub opens_call : List Token → Bool
opens_call [] = false
opens_call (t ∷ ts) = is_parenthesis t.kind

-- One token: what the walk over the rest tells, and whether the rest begins with a `(`, are given.
abbrev pub turn : (ℕ → ℕ → Bool → Bool) → Bool → Mark → ℕ → ℕ → Bool → Bool
turn rest call mark.Opens room nested behind = if room == 0 then false else rest (room - 1) (nested + 1) false
turn rest call mark.Closes room nested behind = if nested == 0 then call else rest (room + 1) (nested - 1) true
turn rest call mark.Begins room nested behind = if behind then false else rest room nested false
turn rest call mark.Follows room nested behind = rest room nested false
turn rest call mark.Other room nested behind = false

-- The walk, where so many `<` may still be opened, so many are open beside the first, and a `>` stands before the tokens or not.
unfoldable pub walk : List Token → ℕ → ℕ → Bool → Bool
walk [] room nested behind = false
walk (t ∷ ts) room nested behind = turn (walk ts) (opens_call ts) (mark_of t.kind) room nested behind

-- behind the first `<`
abbrev pub closes : Spot → Bool
closes p = walk p.tokens p.left 0 false
