-- What holds of what is found, and of the token that comes next.
use Rattle.std.proofs.Common.{◌≡◌, ℕ, ◌<◌, Bool, true, false, if◌then◌else◌, List, [], ◌∷◌, length, Option, Some, None, refl, sym, ap, ◌∙◌}
use Rattle.cad_grammar.specs.declared.token.Sign.{Sign}
use Rattle.cad_syntax.specs.declared.keyword.Keyword.{Keyword}
use Rattle.cad_grammar.specs.declared.token.TokenKind.{TokenKind}
use Rattle.cad_grammar.specs.declared.token.TokenKind.TheVariants as kind
use Rattle.cad_grammar.specs.declared.token.Token.{Token}
use Rattle.cad_syntax.specs.declared.text.Name.{Name}
use Rattle.cad_grammar.specs.Spots.{Spot, behind, read, name_of, is_word, after, keyword, word, name}
use Rattle.cad_parse_type.specs.Code.Levels.{kind_strength, token_strength}
use Rattle.cad_parse_type.specs.Code.Reading.{Reader}
use Rattle.cad_parse_type.proofs.Heads.{none_of, some_same, Taken, next_taken, read_taken, next_shorter, head_of, head, keyword_head, after_strength}
use Rattle.cad_parse_type.proofs.Climbs.{IfFound, found_is}
use Rattle.cad_parse_type.proofs.ListLaws.{IsSound}

-- what is found is spelled so
abbrev pub As : {A : Type 0} → (Spot → A → Spot → Type 0) → Spot → A × Spot → Type 0
As Item p x = Item p x.0 x.1

pub sound : {A : Type 0} (Item : Spot → A → Spot → Type 0) (item : Reader A) → ((p : Spot) → IfFound (As Item p) (item p)) → IsSound Item item
sound Item item h p x e = found_is (As Item p) (item p) x (h p) e

pub if_found_by : {A : Type 0} (P : A → Type 0) (b : Bool) (t d : Option A) → (b ≡ true → IfFound P t) → (b ≡ false → IfFound P d) → IfFound P (if b then t else d)
if_found_by P true t d h g = h refl
if_found_by P false t d h g = g refl

pub if_is : {A : Type 0} (b : Bool) (t d : A) → b ≡ true → (if b then t else d) ≡ t
if_is b t d e = ap (λ x. if x then t else d) e

pub if_not : {A : Type 0} (b : Bool) (t d : A) → b ≡ false → (if b then t else d) ≡ d
if_not b t d e = ap (λ x. if x then t else d) e

-- ---- one token stands between two spots

tokens_same : (t u : Token) (ts us : List Token) → t ∷ ts ≡ u ∷ us → ts ≡ us
tokens_same t u ts us e = cc

-- there is one spot behind a token
pub taken_same : (p q r : Spot) → Taken p q → Taken p r → q ≡ r
taken_same p q r v w = v.same ∙ ap (behind p) (tokens_same v.token w.token q.tokens r.tokens (sym v.split ∙ w.split)) ∙ sym w.same

pub name_taken : (p : Spot) (x : Name × Spot) → name p ≡ Some x → Taken p x.1
name_taken p x e = (read_taken name_of p x e).0

pub word_taken : (text : List ℕ) (p q : Spot) → word text p ≡ Some q → Taken p q
word_taken text p q e = (next_taken _ p q e).0

pub word_shorter : (text : List ℕ) (p q : Spot) → word text p ≡ Some q → length q.tokens < length p.tokens
word_shorter text p q e = next_shorter _ p q e

is_word_name : (text : List ℕ) (found : TokenKind) → is_word text found ≡ true → (n : Name) × (found ≡ kind.Name n)
is_word_name text (kind.Name n) e = (n, refl)
is_word_name text _ e = cc

-- a word is a name
pub word_head : (text : List ℕ) (p q : Spot) → word text p ≡ Some q → (n : Name) × (head p ≡ Some (kind.Name n))
word_head text p q e =
    let w = next_taken _ p q e in
    let n = is_word_name text w.0.token.kind w.1 in
    (n.0, ap head_of w.0.split ∙ ap Some n.1)

-- ---- what comes next isn't two things

kinds_same : (a b : TokenKind) (p : Spot) → head p ≡ Some a → head p ≡ Some b → a ≡ b
kinds_same a b p e f = some_same a b (sym e ∙ f)

pub no_word : (text : List ℕ) (found : TokenKind) (p : Spot) → head p ≡ Some found → ((n : Name) → found ≡ kind.Name n → ⊥) → word text p ≡ None
no_word text found p e h = none_of (word text p) (λ q f. let w = word_head text p q f in h w.0 (kinds_same found (kind.Name w.0) p e w.1))

pub sign_no_word : (text : List ℕ) (sign : Sign) (p : Spot) → head p ≡ Some (kind.Sign sign) → word text p ≡ None
sign_no_word text sign p e = no_word text (kind.Sign sign) p e (λ n f. cc)

pub keyword_no_word : (text : List ℕ) (asked : Keyword) (p : Spot) → head p ≡ Some (kind.Keyword asked) → word text p ≡ None
keyword_no_word text asked p e = no_word text (kind.Keyword asked) p e (λ n f. cc)

-- two keywords that come next are one
pub other_keyword : (a b : Keyword) (p : Spot) → (a ≡ b → ⊥) → head p ≡ Some (kind.Keyword a) → keyword b p ≡ None
other_keyword a b p ne e = none_of (keyword b p) (λ q f. ne (same (kinds_same (kind.Keyword a) (kind.Keyword b) p e (keyword_head b p q f))))
  where
    same : {a b : Keyword} → kind.Keyword a ≡ kind.Keyword b → a ≡ b
    same e = cc e

-- ---- what goes on nothing

pub sign_weak : (sign : Sign) (p q : Spot) → ((b : Bool) → kind_strength b (kind.Sign sign) ≡ 0) → after sign p ≡ Some q → token_strength p ≡ 0
sign_weak sign p q h e = let w = after_strength sign p q e in w.1 ∙ h w.0
