-- Tables of the signs and words of expressions.
use Rattle.std.specs.Prelude.{ℕ, Bool, true, false, ◌||◌, ◌==◌, not, if◌then◌else◌, codes, List, [], ◌∷◌, Option, Some, None}
use Rattle.std.specs.Cmp.Lexicographic.{pointwise}
use Rattle.cad_grammar.specs.declared.token.Sign.{Sign}
use Rattle.cad_grammar.specs.declared.token.Sign.TheVariants as s
use Rattle.cad_syntax.specs.declared.keyword.Keyword.{Keyword}
use Rattle.cad_syntax.specs.declared.keyword.Keyword.TheVariants as k
use Rattle.cad_grammar.specs.declared.token.TokenKind.{TokenKind}
use Rattle.cad_grammar.specs.declared.token.TokenKind.TheVariants as kind
use Rattle.cad_grammar.specs.declared.token.Token.{Token}
use Rattle.cad_syntax.specs.declared.address.Domain.{Domain}
use Rattle.cad_syntax.specs.declared.address.Domain.TheVariants as domain
use Rattle.cad_syntax.specs.declared.text.Name.{Name}
use Rattle.cad_grammar.specs.declared.level.Level.{Level}
use Rattle.cad_grammar.specs.declared.level.Level.TheVariants as level
use Rattle.cad_grammar.specs.declared.level.TypePosition.{TypePosition}
use Rattle.cad_grammar.specs.declared.level.TypePosition.TheVariants as position
use Rattle.cad_grammar.specs.declared.expression.BinaryOperator.{BinaryOperator}
use Rattle.cad_grammar.specs.declared.expression.BinaryOperator.TheVariants as op
use Rattle.cad_grammar.specs.declared.expression.UnaryOperator.{UnaryOperator}
use Rattle.cad_grammar.specs.declared.expression.UnaryOperator.TheVariants as unary
use Rattle.cad_grammar.specs.declared.expression.CastKind.{CastKind}
use Rattle.cad_grammar.specs.declared.expression.CastKind.TheVariants as cast
use Rattle.cad_grammar.specs.Trees.{ExprTree}
use Rattle.cad_grammar.specs.Trees as tree
use Rattle.cad_grammar.specs.Spots.{Spot, read, after}

-- the next tighter level
abbrev pub tighter : Level → Level
tighter level.Conditional = level.Or
tighter level.Or = level.And
tighter level.And = level.Comparison
tighter level.Comparison = level.Coalesce
tighter level.Coalesce = level.BitOr
tighter level.BitOr = level.BitXor
tighter level.BitXor = level.BitAnd
tighter level.BitAnd = level.Sum
tighter level.Sum = level.Product
tighter level.Product = level.Cast
tighter level.Cast = level.Prefix
tighter level.Prefix = level.Postfix
tighter level.Postfix = level.Primary
tighter level.Primary = level.Primary

-- the operators that group to the left at each level
abbrev pub operator_of : Level → TokenKind → Option BinaryOperator
operator_of level.Or (kind.Sign s.Or) = Some op.Or
operator_of level.And (kind.Sign s.And) = Some op.And
operator_of level.Comparison (kind.Sign s.Less) = Some op.Less
operator_of level.Comparison (kind.Sign s.LessOrEqual) = Some op.LessOrEqual
operator_of level.Comparison (kind.Sign s.Greater) = Some op.Greater
operator_of level.Comparison (kind.Sign s.GreaterOrEqual) = Some op.GreaterOrEqual
operator_of level.Comparison (kind.Sign s.Equal) = Some op.Equal
operator_of level.Comparison (kind.Sign s.NotEqual) = Some op.NotEqual
operator_of level.BitOr (kind.Sign s.Bar) = Some op.BitOr
operator_of level.BitXor (kind.Sign s.Caret) = Some op.BitXor
operator_of level.BitAnd (kind.Sign s.Ampersand) = Some op.BitAnd
operator_of level.Sum (kind.Sign s.Plus) = Some op.Add
operator_of level.Sum (kind.Sign s.Minus) = Some op.Subtract
operator_of level.Product (kind.Sign s.Star) = Some op.Multiply
operator_of level.Product (kind.Sign s.Slash) = Some op.Divide
operator_of level.Product (kind.Sign s.Percent) = Some op.Remainder
operator_of _ _ = None

abbrev pub operator : Level → Spot → Option (BinaryOperator × Spot)
operator l = read (operator_of l)

abbrev pub cast_of : TokenKind → Option CastKind
cast_of (kind.Keyword k.As) = Some cast.Static
cast_of (kind.Sign s.AsOptional) = Some cast.Failable
cast_of (kind.Sign s.AsForce) = Some cast.Forced
cast_of _ = None

abbrev pub cast_word : Spot → Option (CastKind × Spot)
cast_word = read cast_of

abbrev pub unary_of : TokenKind → Option UnaryOperator
unary_of (kind.Sign s.Minus) = Some unary.Negate
unary_of (kind.Sign s.Bang) = Some unary.Not
unary_of (kind.Sign s.Star) = Some unary.Dereference
unary_of (kind.Sign s.Move) = Some unary.Move
unary_of (kind.Keyword k.Destroy) = Some unary.Destroy
unary_of _ = None

abbrev pub unary_word : Spot → Option (UnaryOperator × Spot)
unary_word = read unary_of

-- `.` or `?.`, which is told
abbrev pub dot_of : TokenKind → Option Bool
dot_of (kind.Sign s.Dot) = Some false
dot_of (kind.Sign s.OptionalDot) = Some true
dot_of _ = None

abbrev pub dot : Spot → Option (Bool × Spot)
dot = read dot_of

-- an expression of one token that is no name
abbrev pub literal_of : TokenKind → Option ExprTree
literal_of (kind.Whole value hexadecimal) = Some (tree.whole value hexadecimal)
literal_of (kind.Fixed value) = Some (tree.fixed value)
literal_of (kind.Text text) = Some (tree.text text)
literal_of (kind.Keyword k.True) = Some (tree.bool true)
literal_of (kind.Keyword k.False) = Some (tree.bool false)
literal_of (kind.Keyword k.Nil) = Some tree.nil
literal_of (kind.Keyword k.Self_) = Some tree.self
literal_of _ = None

abbrev pub literal : Spot → Option (ExprTree × Spot)
literal = read literal_of

-- the domain of a path
abbrev pub domain_named : Name → Option Domain
domain_named n =
    if pointwise ◌==◌ n.0 (codes "storage") then Some domain.Storage
    else (if pointwise ◌==◌ n.0 (codes "public") then Some domain.Public
    else None)

abbrev pub domain_of : TokenKind → Option Domain
domain_of (kind.Name n) = domain_named n
domain_of _ = None

abbrev pub domain_name : Spot → Option (Domain × Spot)
domain_name = read domain_of

-- The tightest level of an expression that a token may begin, or 0.
abbrev pub sign_start : Sign → ℕ
sign_start s.Minus = 12
sign_start s.Bang = 12
sign_start s.Star = 12
sign_start s.Move = 12
sign_start s.Ampersand = 12
sign_start s.OpenParenthesis = 14
sign_start s.OpenBracket = 14
sign_start s.OpenBrace = 14
sign_start s.Slash = 14
sign_start _ = 0

abbrev pub keyword_start : Keyword → ℕ
keyword_start k.Destroy = 12
keyword_start k.True = 14
keyword_start k.False = 14
keyword_start k.Nil = 14
keyword_start k.Self_ = 14
keyword_start k.Create = 14
keyword_start _ = 0

abbrev pub kind_start : TokenKind → ℕ
kind_start (kind.Sign sign) = sign_start sign
kind_start (kind.Keyword word) = keyword_start word
kind_start _ = 14

abbrev pub begins_expression : TokenKind → Bool
begins_expression found = not (kind_start found == 0)

-- Whether a `?` belongs to the type before it, by what stands behind it. Behind an `as` form it does where a line break, a `{`
-- or nothing that begins an expression follows.
abbrev pub is_over : Bool → TokenKind → Bool
is_over broken (kind.Sign s.OpenBrace) = true
is_over broken found = broken || not (begins_expression found)

abbrev pub belongs_of : TypePosition → List Token → Bool
belongs_of position.Anywhere ts = true
belongs_of position.BehindAs [] = true
belongs_of position.BehindAs (t ∷ ts) = is_over t.after_break t.kind

abbrev pub if_belongs : TypePosition → Option Spot → Option Spot
if_belongs at None = None
if_belongs at (Some q) = if belongs_of at q.tokens then Some q else None

-- behind a `?` of a type, and behind a `??`, which counts as two
unfoldable pub question : TypePosition → Spot → Option Spot
question at p = if_belongs at (after s.Question p)

unfoldable pub questions : TypePosition → Spot → Option Spot
questions at p = if_belongs at (after s.Coalesce p)
