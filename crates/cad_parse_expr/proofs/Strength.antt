-- At which level the next tokens go on, and which level they begin.
use Rattle.std.proofs.Common.{◌≡◌, ℕ, ◌<◌, ◌≤◌, Bool, false, List, [], ◌∷◌, Option, Some, None, refl, sym, ap, ◌∙◌, arith}
use Rattle.cad_grammar.specs.declared.token.Sign.{Sign}
use Rattle.cad_grammar.specs.declared.token.Sign.TheVariants as s
use Rattle.cad_syntax.specs.declared.keyword.Keyword.{Keyword}
use Rattle.cad_syntax.specs.declared.keyword.Keyword.TheVariants as k
use Rattle.cad_grammar.specs.declared.token.TokenKind.{TokenKind}
use Rattle.cad_grammar.specs.declared.token.TokenKind.TheVariants as kind
use Rattle.cad_grammar.specs.declared.token.Token.{Token}
use Rattle.cad_grammar.specs.declared.level.Level.{Level}
use Rattle.cad_grammar.specs.declared.level.Level.TheVariants as level
use Rattle.cad_grammar.specs.declared.expression.BinaryOperator.{BinaryOperator}
use Rattle.cad_grammar.specs.declared.expression.UnaryOperator.{UnaryOperator}
use Rattle.cad_grammar.specs.declared.expression.CastKind.{CastKind}
use Rattle.cad_grammar.specs.Trees.{Annotation, ExprTree}
use Rattle.cad_grammar.specs.Spots.{Spot, after, joined, keyword, opening}
use Rattle.cad_grammar.specs.Levels.{operator_of, operator, cast_of, cast_word, unary_of, unary_word, dot_of, dot, literal_of, literal, sign_start, keyword_start, kind_start}
use Rattle.cad_parse_type.specs.Code.Levels.{level_number, sign_strength, kind_strength, token_strength, start_of, start}
use Rattle.cad_grammar.specs.ExpressionGrammar.{TypeArguments, HasNoTypeArguments}
use Rattle.cad_grammar.specs.ExpressionGrammar as gr
use Rattle.cad_parse_type.proofs.Heads.{none_of, some_same, head_of, head, after_head, joined_head, joined_strength, keyword_head, read_head, opening_head, head_strength, head_start}
use Rattle.cad_parse_type.proofs.Climbs.{found_is}
use Rattle.cad_parse_expr.specs.Code.Reading.{type_arguments, strength_by, strength}
use Rattle.cad_parse_expr.proofs.Sound.{ArgumentsAs, type_arguments_sound, type_arguments_exact, finds_no_type_arguments}

-- ---- tables

abbrev pub HasOperators : Level → Type 0
HasOperators level.Or = Unit {0}
HasOperators level.And = Unit {0}
HasOperators level.Comparison = Unit {0}
HasOperators level.BitOr = Unit {0}
HasOperators level.BitXor = Unit {0}
HasOperators level.BitAnd = Unit {0}
HasOperators level.Sum = Unit {0}
HasOperators level.Product = Unit {0}
HasOperators _ = ⊥

-- the levels whose expressions group to the left
abbrev pub IsChain : Level → Type 0
IsChain level.Cast = Unit {0}
IsChain level.Postfix = Unit {0}
IsChain l = HasOperators l

-- what an operator's table tells of a token
abbrev OperatorIs : Level → TokenKind → Type 0
OperatorIs l found = HasOperators l × ((broken : Bool) → kind_strength broken found ≡ level_number l)

operator_of_is : (l : Level) (found : TokenKind) (o : BinaryOperator) → operator_of l found ≡ Some o → OperatorIs l found
operator_of_is level.Or (kind.Sign s.Or) o e = (tt, λ b. refl)
operator_of_is level.And (kind.Sign s.And) o e = (tt, λ b. refl)
operator_of_is level.Comparison (kind.Sign s.Less) o e = (tt, λ b. refl)
operator_of_is level.Comparison (kind.Sign s.LessOrEqual) o e = (tt, λ b. refl)
operator_of_is level.Comparison (kind.Sign s.Greater) o e = (tt, λ b. refl)
operator_of_is level.Comparison (kind.Sign s.GreaterOrEqual) o e = (tt, λ b. refl)
operator_of_is level.Comparison (kind.Sign s.Equal) o e = (tt, λ b. refl)
operator_of_is level.Comparison (kind.Sign s.NotEqual) o e = (tt, λ b. refl)
operator_of_is level.BitOr (kind.Sign s.Bar) o e = (tt, λ b. refl)
operator_of_is level.BitXor (kind.Sign s.Caret) o e = (tt, λ b. refl)
operator_of_is level.BitAnd (kind.Sign s.Ampersand) o e = (tt, λ b. refl)
operator_of_is level.Sum (kind.Sign s.Plus) o e = (tt, λ b. refl)
operator_of_is level.Sum (kind.Sign s.Minus) o e = (tt, λ b. refl)
operator_of_is level.Product (kind.Sign s.Star) o e = (tt, λ b. refl)
operator_of_is level.Product (kind.Sign s.Slash) o e = (tt, λ b. refl)
operator_of_is level.Product (kind.Sign s.Percent) o e = (tt, λ b. refl)
operator_of_is _ _ o e = cc

cast_of_is : (found : TokenKind) (c : CastKind) → cast_of found ≡ Some c → (broken : Bool) → kind_strength broken found ≡ 11
cast_of_is (kind.Keyword k.As) c e b = refl
cast_of_is (kind.Sign s.AsOptional) c e b = refl
cast_of_is (kind.Sign s.AsForce) c e b = refl
cast_of_is _ c e b = cc

dot_of_is : (found : TokenKind) (c : Bool) → dot_of found ≡ Some c → (broken : Bool) → kind_strength broken found ≡ 13
dot_of_is (kind.Sign s.Dot) c e b = refl
dot_of_is (kind.Sign s.OptionalDot) c e b = refl
dot_of_is _ c e b = cc

unary_of_is : (found : TokenKind) (o : UnaryOperator) → unary_of found ≡ Some o → kind_start found ≡ 12
unary_of_is (kind.Sign s.Minus) o e = refl
unary_of_is (kind.Sign s.Bang) o e = refl
unary_of_is (kind.Sign s.Star) o e = refl
unary_of_is (kind.Sign s.Move) o e = refl
unary_of_is (kind.Keyword k.Destroy) o e = refl
unary_of_is _ o e = cc

literal_of_is : (found : TokenKind) (a : ExprTree) → literal_of found ≡ Some a → kind_start found ≡ 14
literal_of_is (kind.Whole value hexadecimal) a e = refl
literal_of_is (kind.Fixed value) a e = refl
literal_of_is (kind.Text text) a e = refl
literal_of_is (kind.Keyword k.True) a e = refl
literal_of_is (kind.Keyword k.False) a e = refl
literal_of_is (kind.Keyword k.Nil) a e = refl
literal_of_is (kind.Keyword k.Self_) a e = refl
literal_of_is _ a e = cc

-- a token that begins no expression of level 12 begins none
sign_twelve : (sign : Sign) → 0 < sign_start sign → 12 ≤ sign_start sign
sign_twelve s.Minus lt = omega arith
sign_twelve s.Bang lt = omega arith
sign_twelve s.Star lt = omega arith
sign_twelve s.Move lt = omega arith
sign_twelve s.Ampersand lt = omega arith
sign_twelve s.OpenParenthesis lt = omega arith
sign_twelve s.OpenBracket lt = omega arith
sign_twelve s.OpenBrace lt = omega arith
sign_twelve s.Slash lt = omega arith
sign_twelve _ lt = omega arith

keyword_twelve : (word : Keyword) → 0 < keyword_start word → 12 ≤ keyword_start word
keyword_twelve k.Destroy lt = omega arith
keyword_twelve k.True lt = omega arith
keyword_twelve k.False lt = omega arith
keyword_twelve k.Nil lt = omega arith
keyword_twelve k.Self_ lt = omega arith
keyword_twelve k.Create lt = omega arith
keyword_twelve _ lt = omega arith

kind_twelve : (found : TokenKind) → 0 < kind_start found → 12 ≤ kind_start found
kind_twelve (kind.Sign sign) lt = sign_twelve sign lt
kind_twelve (kind.Keyword word) lt = keyword_twelve word lt
kind_twelve _ lt = omega arith

-- ---- type arguments

pub arguments_begin : {p q : Spot} {all : List Annotation} → TypeArguments p all q → head p ≡ Some (kind.Sign s.Less)
arguments_begin (gr.type_arguments {p} {q} b o d c) = opening_head s.Less p q o

-- where the next token isn't `<` there are none
pub no_arguments : (p : Spot) (found : TokenKind) → head p ≡ Some found → (found ≡ kind.Sign s.Less → ⊥) → type_arguments p ≡ None
no_arguments p found e ne = none_of (type_arguments p) (λ x f.
    ne (some_same found (kind.Sign s.Less) (sym e ∙ arguments_begin (found_is (ArgumentsAs p) _ x (type_arguments_sound p) f))))

pub plain_strength : (p : Spot) → type_arguments p ≡ None → strength p ≡ token_strength p
unfolding strength
plain_strength p e = ap (λ o. strength_by o p) e

pub arguments_strength : {p q : Spot} {all : List Annotation} → TypeArguments p all q → strength p ≡ 13
unfolding strength
arguments_strength {p} d = ap (λ o. strength_by o p) (type_arguments_exact d)

-- the strength of a token that is no `<`
pub kind_is : (p : Spot) (found : TokenKind) → head p ≡ Some found → (found ≡ kind.Sign s.Less → ⊥) → (b : Bool) × (strength p ≡ kind_strength b found)
kind_is p found e ne = let w = head_strength p found e in (w.0, plain_strength p (no_arguments p found e ne) ∙ w.1)

pub after_is : (sign : Sign) (p q : Spot) → (sign ≡ s.Less → ⊥) → after sign p ≡ Some q → (b : Bool) × (strength p ≡ sign_strength b sign)
after_is sign p q ne e = kind_is p (kind.Sign sign) (after_head sign p q e) (λ c. ne (let d : kind.Sign sign ≡ kind.Sign s.Less = c in cc))

pub joined_is : (sign : Sign) (p q : Spot) → (sign ≡ s.Less → ⊥) → joined sign p ≡ Some q → strength p ≡ sign_strength false sign
joined_is sign p q ne e =
    plain_strength p (no_arguments p (kind.Sign sign) (joined_head sign p q e) (λ c. ne (let d : kind.Sign sign ≡ kind.Sign s.Less = c in cc))) ∙ joined_strength sign p q e

pub as_is : (p q : Spot) → keyword k.As p ≡ Some q → strength p ≡ 11
as_is p q e = (kind_is p (kind.Keyword k.As) (keyword_head k.As p q e) (λ c. cc)).1

-- a `<` is no word of these tables
cast_no_less : (found : TokenKind) (c : CastKind) → cast_of found ≡ Some c → found ≡ kind.Sign s.Less → ⊥
cast_no_less found c e f = let d = sym (ap cast_of f) ∙ e in cc

dot_no_less : (found : TokenKind) (c : Bool) → dot_of found ≡ Some c → found ≡ kind.Sign s.Less → ⊥
dot_no_less found c e f = let d = sym (ap dot_of f) ∙ e in cc

pub cast_is : (p : Spot) (x : CastKind × Spot) → cast_word p ≡ Some x → strength p ≡ 11
cast_is p x e =
    let w = read_head cast_of p x e in
    let v = kind_is p w.0 w.1 (cast_no_less w.0 x.0 w.2) in
    v.1 ∙ cast_of_is w.0 x.0 w.2 v.0

pub dot_is : (p : Spot) (x : Bool × Spot) → dot p ≡ Some x → (strength p ≡ 13) × (type_arguments p ≡ None)
dot_is p x e =
    let w = read_head dot_of p x e in
    let v = kind_is p w.0 w.1 (dot_no_less w.0 x.0 w.2) in
    (v.1 ∙ dot_of_is w.0 x.0 w.2 v.0, no_arguments p w.0 w.1 (dot_no_less w.0 x.0 w.2))

pub operator_is : (l : Level) (p : Spot) (o : BinaryOperator × Spot) → operator l p ≡ Some o → HasOperators l × (token_strength p ≡ level_number l)
operator_is l p o e =
    let w = read_head (operator_of l) p o e in
    let v = operator_of_is l w.0 o.0 w.2 in
    let h = head_strength p w.0 w.1 in
    (v.0, h.1 ∙ v.1 h.0)

pub operator_strength : (l : Level) (p : Spot) (o : BinaryOperator × Spot) → operator l p ≡ Some o → HasNoTypeArguments p → strength p ≡ level_number l
operator_strength l p o e h = plain_strength p (finds_no_type_arguments p h) ∙ (operator_is l p o e).1

-- ---- where the tokens go on weaker than a level

pub weak_arguments : (p : Spot) → strength p < 13 → type_arguments p ≡ None
weak_arguments p lt = none_of (type_arguments p) (λ x e. omega (arith, arguments_strength (found_is (ArgumentsAs p) _ x (type_arguments_sound p) e)))

operator_looser : (l : Level) → HasOperators l → level_number l ≤ 10
operator_looser level.Or h = omega arith
operator_looser level.And h = omega arith
operator_looser level.Comparison h = omega arith
operator_looser level.BitOr h = omega arith
operator_looser level.BitXor h = omega arith
operator_looser level.BitAnd h = omega arith
operator_looser level.Sum h = omega arith
operator_looser level.Product h = omega arith
operator_looser _ h = absurd h

pub weak_operator : (l : Level) (p : Spot) → strength p < level_number l → operator l p ≡ None
weak_operator l p lt = none_of (operator l p) (λ o e.
    let w = operator_is l p o e in
    let none = weak_arguments p (omega (arith, operator_looser l w.0)) in
    omega (arith, plain_strength p none, w.1))

pub weak_cast : (p : Spot) → strength p < 11 → cast_word p ≡ None
weak_cast p lt = none_of (cast_word p) (λ x e. omega (arith, cast_is p x e))

pub weak_dot : (p : Spot) → strength p < 13 → dot p ≡ None
weak_dot p lt = none_of (dot p) (λ x e. omega (arith, (dot_is p x e).0))

pub weak_joined : (sign : Sign) (p : Spot) → (sign ≡ s.Less → ⊥) → strength p < sign_strength false sign → joined sign p ≡ None
weak_joined sign p ne lt = none_of (joined sign p) (λ q e. omega (arith, joined_is sign p q ne e))

pub weak_after : (sign : Sign) (p : Spot) (bound : ℕ) → (sign ≡ s.Less → ⊥) → ((b : Bool) → bound ≤ sign_strength b sign) → strength p < bound → after sign p ≡ None
weak_after sign p bound ne h lt = none_of (after sign p) (λ q e. let w = after_is sign p q ne e in omega (arith, h w.0, w.1))

-- where no token goes on after an expression, nothing does
pub nothing_follows : (p : Spot) → token_strength p ≡ 0 → strength p ≡ 0
nothing_follows p e = plain_strength p (none_of (type_arguments p) (λ x f.
    let h = head_strength p (kind.Sign s.Less) (arguments_begin (found_is (ArgumentsAs p) _ x (type_arguments_sound p) f)) in omega (arith, h.1, e))) ∙ e

-- ---- what a spot begins

pub after_start : (sign : Sign) (p q : Spot) → after sign p ≡ Some q → start p ≡ sign_start sign
after_start sign p q e = head_start p (kind.Sign sign) (after_head sign p q e)

pub opening_start : (sign : Sign) (p q : Spot) → opening sign p ≡ Some q → start p ≡ sign_start sign
opening_start sign p q e = head_start p (kind.Sign sign) (opening_head sign p q e)

pub unary_start : (p : Spot) (x : UnaryOperator × Spot) → unary_word p ≡ Some x → start p ≡ 12
unary_start p x e = let w = read_head unary_of p x e in head_start p w.0 w.1 ∙ unary_of_is w.0 x.0 w.2

pub literal_start : (p : Spot) (x : ExprTree × Spot) → literal p ≡ Some x → start p ≡ 14
literal_start p x e = let w = read_head literal_of p x e in head_start p w.0 w.1 ∙ literal_of_is w.0 x.0 w.2

empty_start : (ts : List Token) → head_of ts ≡ None → start_of ts ≡ 0
empty_start [] e = refl
empty_start (t ∷ ts) e = cc

-- what begins an expression begins one of the level of prefixes
start_twelve_of : (o : Option TokenKind) (p : Spot) → head p ≡ o → 0 < start p → 12 ≤ start p
start_twelve_of None p e lt = omega (arith, empty_start p.tokens e)
start_twelve_of (Some found) p e lt = let h = head_start p found e in omega (arith, h, kind_twelve found (omega (arith, h)))

pub start_twelve : (p : Spot) → 0 < start p → 12 ≤ start p
start_twelve p lt = start_twelve_of (head p) p refl lt
