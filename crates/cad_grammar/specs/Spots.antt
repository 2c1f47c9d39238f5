-- Where reading stands, and tests on the tokens that come next.
use Rattle.std.specs.Prelude.{ℕ, zero, suc, Bool, true, false, ◌&&◌, ◌||◌, ◌==◌, not, List, [], ◌∷◌, codes, Option, Some, None}
use Rattle.std.specs.Cmp.Lexicographic.{pointwise}
use denote.Enum.Bare.{sameb}
use Rattle.cad_grammar.specs.contracts.token.Sign.{the_type as sign_type}
use Rattle.cad_syntax.specs.contracts.keyword.Keyword.{the_type as keyword_type}
use Rattle.cad_grammar.specs.declared.token.Sign.{Sign}
use Rattle.cad_grammar.specs.declared.token.Sign.TheVariants as s
use Rattle.cad_syntax.specs.declared.keyword.Keyword.{Keyword}
use Rattle.cad_syntax.specs.declared.keyword.Keyword.TheVariants as k
use Rattle.cad_grammar.specs.declared.token.TokenKind.{TokenKind}
use Rattle.cad_grammar.specs.declared.token.TokenKind.TheVariants as kind
use Rattle.cad_grammar.specs.declared.token.Token.{Token}
use Rattle.cad_syntax.specs.declared.text.Name.{Name}

-- How many nestings may still be opened, whether the name of an expression or of a member was read last, and the tokens
-- that are left.
pub record Spot : Type 0 where
  pub left : ℕ
  pub after_name : Bool
  pub tokens : List Token

-- behind a token
abbrev pub behind : Spot → List Token → Spot
behind p tokens = record { left = p.left; after_name = false; tokens = tokens }

-- behind the name of an expression or of a member
abbrev pub named : Spot → Spot
named p = record { left = p.left; after_name = true; tokens = p.tokens }

-- as many nestings may be opened as at p: what stood between is closed
abbrev pub back : Spot → Spot → Spot
back p q = record { left = p.left; after_name = false; tokens = q.tokens }

abbrev pub then : {A B : Type 0} → Option A → (A → Option B) → Option B
then None f = None
then (Some a) f = f a

infixl 10 ◌>>=◌
abbrev pub ◌>>=◌ : {A B : Type 0} → Option A → (A → Option B) → Option B
o >>= f = then o f

-- by whether there is something
abbrev pub either : {A B : Type 0} → Option A → (A → B) → B → B
either None f d = d
either (Some a) f d = f a

abbrev pub only_if : {A : Type 0} → Bool → A → Option A
only_if true a = Some a
only_if false a = None

-- ---- tests on the next token, by whether a line break stands before it and by its kind

abbrev pub next_of : (Bool → TokenKind → Bool) → Spot → List Token → Option Spot
next_of test p [] = None
next_of test p (t ∷ ts) = only_if (test t.after_break t.kind) (behind p ts)

-- the spot behind the next token, where it passes
unfoldable pub next : (Bool → TokenKind → Bool) → Spot → Option Spot
next test p = next_of test p p.tokens

abbrev pub read_of : {A : Type 0} → (TokenKind → Option A) → Spot → List Token → Option (A × Spot)
read_of table p [] = None
read_of table p (t ∷ ts) = then (table t.kind) (λ a. Some (a, behind p ts))

-- what the next token tells, and the spot behind it
unfoldable pub read : {A : Type 0} → (TokenKind → Option A) → Spot → Option (A × Spot)
read table p = read_of table p p.tokens

abbrev pub holds_of : (Bool → TokenKind → Bool) → List Token → Bool
holds_of test [] = false
holds_of test (t ∷ ts) = test t.after_break t.kind

-- whether there is a next token, and it passes
unfoldable pub holds : (Bool → TokenKind → Bool) → Spot → Bool
holds test p = holds_of test p.tokens

-- `==` on signs and keywords
unfoldable pub same_sign : Sign → Sign → Bool
same_sign = sameb sign_type

unfoldable pub same_keyword : Keyword → Keyword → Bool
same_keyword = sameb keyword_type

abbrev pub is_sign : Sign → TokenKind → Bool
is_sign sign (kind.Sign found) = same_sign sign found
is_sign sign _ = false

abbrev pub is_keyword : Keyword → TokenKind → Bool
is_keyword keyword (kind.Keyword found) = same_keyword keyword found
is_keyword keyword _ = false

-- a name that is spelled so
abbrev pub is_word : List ℕ → TokenKind → Bool
is_word text (kind.Name n) = pointwise ◌==◌ n.0 text
is_word text _ = false

-- behind this sign
abbrev pub after : Sign → Spot → Option Spot
after sign = next (λ broken found. is_sign sign found)

-- behind this sign, which no line break may stand before
abbrev pub joined : Sign → Spot → Option Spot
joined sign = next (λ broken found. not broken && is_sign sign found)

-- behind this keyword
abbrev pub keyword : Keyword → Spot → Option Spot
keyword word = next (λ broken found. is_keyword word found)

-- behind a name that is spelled so
abbrev pub word : List ℕ → Spot → Option Spot
word text = next (λ broken found. is_word text found)

abbrev pub name_of : TokenKind → Option Name
name_of (kind.Name n) = Some n
name_of _ = None

abbrev pub name : Spot → Option (Name × Spot)
name = read name_of

-- ---- nestings

abbrev pub opened_of : ℕ → Spot → Option Spot
opened_of zero p = None
opened_of (suc n) p = Some (record { left = n; after_name = p.after_name; tokens = p.tokens })

-- one nesting is opened
unfoldable pub opened : Spot → Option Spot
opened p = opened_of p.left p

-- behind an opening sign
abbrev pub opening : Sign → Spot → Option Spot
opening sign p = after sign p >>= opened

-- behind a sign at q, with as many nestings to open as at p
abbrev pub resumed : Sign → Spot → Spot → Option Spot
resumed sign p q = after sign q >>= (λ r. Some (back p r))
