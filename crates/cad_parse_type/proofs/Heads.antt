-- What the tests on the next token tell.
use Rattle.std.proofs.Common.{◌≡◌, ℕ, zero, suc, ◌<◌, ◌≤◌, Bool, true, false, not, ◌&&◌, List, [], ◌∷◌, ◌++◌, length, Option, Some, None, refl, sym, ap, ◌∙◌, arith, rules, append_assoc}
use denote.Enum.Bare.{same_true}
use Rattle.cad_grammar.specs.contracts.token.Sign.{the_type as sign_type}
use Rattle.cad_syntax.specs.contracts.keyword.Keyword.{the_type as keyword_type}
use Rattle.cad_grammar.specs.declared.token.Sign.{Sign}
use Rattle.cad_syntax.specs.declared.keyword.Keyword.{Keyword}
use Rattle.cad_grammar.specs.declared.token.TokenKind.{TokenKind}
use Rattle.cad_grammar.specs.declared.token.TokenKind.TheVariants as kind
use Rattle.cad_grammar.specs.declared.token.Token.{Token}
use Rattle.cad_syntax.specs.declared.text.Name.{Name}
use Rattle.cad_grammar.specs.Spots.{Spot, behind, back, then, only_if, next_of, next, read_of, read, same_sign, same_keyword, is_sign, is_keyword, after, joined, keyword, name_of, name, opened_of, opened, opening, resumed}
use Rattle.cad_grammar.specs.Levels.{kind_start}
use Rattle.cad_parse_type.specs.Code.Levels.{sign_strength, kind_strength, strength_of, token_strength, start_of, start}

pub none_of : {A : Type 0} (o : Option A) → ((x : A) → o ≡ Some x → ⊥) → o ≡ None
none_of None h = refl
none_of (Some x) h = absurd (h x refl)

pub some_same : {A : Type 0} (x y : A) → ◌≡◌ {A = Option A} (Some x) (Some y) → x ≡ y
some_same x y e = cc

only_if_some : {A : Type 0} (b : Bool) (a x : A) → only_if b a ≡ Some x → (b ≡ true) × (a ≡ x)
only_if_some true a x e = (refl, cc)
only_if_some false a x e = (cc, cc)

pub then_some : {A B : Type 0} (o : Option A) (f : A → Option B) (x : B) → then o f ≡ Some x → (a : A) × (o ≡ Some a) × (f a ≡ Some x)
then_some None f x e = cc
then_some (Some a) f x e = (a, refl, e)

both_true : (a b : Bool) → (a && b) ≡ true → (a ≡ true) × (b ≡ true)
both_true true true e = (refl, refl)
both_true true false e = cc
both_true false b e = cc

not_true : (b : Bool) → not b ≡ true → b ≡ false
not_true true e = cc
not_true false e = refl

same_sign_true : (a b : Sign) → same_sign a b ≡ true → a ≡ b
unfolding same_sign
same_sign_true a b e = same_true sign_type (search rules) a b e

same_keyword_true : (a b : Keyword) → same_keyword a b ≡ true → a ≡ b
unfolding same_keyword
same_keyword_true a b e = same_true keyword_type (search rules) a b e

is_sign_true : (sign : Sign) (found : TokenKind) → is_sign sign found ≡ true → found ≡ kind.Sign sign
is_sign_true sign (kind.Sign other) e = ap kind.Sign (sym (same_sign_true sign other e))
is_sign_true sign _ e = cc

is_keyword_true : (asked : Keyword) (found : TokenKind) → is_keyword asked found ≡ true → found ≡ kind.Keyword asked
is_keyword_true asked (kind.Keyword other) e = ap kind.Keyword (sym (same_keyword_true asked other e))
is_keyword_true asked _ e = cc

name_of_some : (found : TokenKind) (n : Name) → name_of found ≡ Some n → found ≡ kind.Name n
name_of_some (kind.Name other) n e = ap kind.Name (some_same other n e)
name_of_some _ n e = cc

-- ---- the token that was taken

-- one token stands between two spots
pub record Taken (p q : Spot) : Type 0 where
  pub token : Token
  pub split : p.tokens ≡ token ∷ q.tokens
  pub same : q ≡ behind p q.tokens

pub taken_shorter : (p q : Spot) → Taken p q → length q.tokens < length p.tokens
taken_shorter p q w = omega (arith, ap length w.split)

pub taken_left : (p q : Spot) → Taken p q → q.left ≡ p.left
taken_left p q w = ap (λ r. r.left) w.same

next_of_taken : (test : Bool → TokenKind → Bool) (p : Spot) (ts : List Token) (q : Spot) → next_of test p ts ≡ Some q
    → (t : Token) × (ts ≡ t ∷ q.tokens) × (q ≡ behind p q.tokens) × (test t.after_break t.kind ≡ true)
next_of_taken test p [] q e = cc
next_of_taken test p (t ∷ ts) q e =
    let w = only_if_some (test t.after_break t.kind) (behind p ts) q e in
    (t, ap (λ r. t ∷ r.tokens) w.1, sym w.1 ∙ ap (λ r. behind p r.tokens) w.1, w.0)

pub next_taken : (test : Bool → TokenKind → Bool) (p q : Spot) → next test p ≡ Some q → (w : Taken p q) × (test w.token.after_break w.token.kind ≡ true)
unfolding next
next_taken test p q e = let w = next_of_taken test p p.tokens q e in (record { token = w.0; split = w.1; same = w.2 }, w.3)

read_of_taken : {A : Type 0} (table : TokenKind → Option A) (p : Spot) (ts : List Token) (x : A × Spot) → read_of table p ts ≡ Some x
    → (t : Token) × (ts ≡ t ∷ x.1.tokens) × (x.1 ≡ behind p x.1.tokens) × (table t.kind ≡ Some x.0)
read_of_taken table p [] x e = cc
read_of_taken {A} table p (t ∷ ts) x e =
    let w = then_some (table t.kind) (λ a. Some (a, behind p ts)) x e in
    let same : (w.0, behind p ts) ≡ x = some_same (w.0, behind p ts) x w.2 in
    (t, ap (λ y. t ∷ y.1.tokens) same, sym (ap (λ y. y.1) same) ∙ ap (λ y. behind p y.1.tokens) same, w.1 ∙ ap (λ y. Some y.0) same)

pub read_taken : {A : Type 0} (table : TokenKind → Option A) (p : Spot) (x : A × Spot) → read table p ≡ Some x → (w : Taken p x.1) × (table w.token.kind ≡ Some x.0)
unfolding read
read_taken table p x e = let w = read_of_taken table p p.tokens x e in (record { token = w.0; split = w.1; same = w.2 }, w.3)

pub next_shorter : (test : Bool → TokenKind → Bool) (p q : Spot) → next test p ≡ Some q → length q.tokens < length p.tokens
next_shorter test p q e = taken_shorter p q (next_taken test p q e).0

pub next_left : (test : Bool → TokenKind → Bool) (p q : Spot) → next test p ≡ Some q → q.left ≡ p.left
next_left test p q e = taken_left p q (next_taken test p q e).0

pub read_shorter : {A : Type 0} (table : TokenKind → Option A) (p : Spot) (x : A × Spot) → read table p ≡ Some x → length x.1.tokens < length p.tokens
read_shorter table p x e = taken_shorter p x.1 (read_taken table p x e).0

pub read_left : {A : Type 0} (table : TokenKind → Option A) (p : Spot) (x : A × Spot) → read table p ≡ Some x → x.1.left ≡ p.left
read_left table p x e = taken_left p x.1 (read_taken table p x e).0

pub after_shorter : (sign : Sign) (p q : Spot) → after sign p ≡ Some q → length q.tokens < length p.tokens
after_shorter sign p q e = next_shorter _ p q e

pub after_left : (sign : Sign) (p q : Spot) → after sign p ≡ Some q → q.left ≡ p.left
after_left sign p q e = next_left _ p q e

pub joined_shorter : (sign : Sign) (p q : Spot) → joined sign p ≡ Some q → length q.tokens < length p.tokens
joined_shorter sign p q e = next_shorter _ p q e

pub joined_left : (sign : Sign) (p q : Spot) → joined sign p ≡ Some q → q.left ≡ p.left
joined_left sign p q e = next_left _ p q e

pub keyword_shorter : (asked : Keyword) (p q : Spot) → keyword asked p ≡ Some q → length q.tokens < length p.tokens
keyword_shorter asked p q e = next_shorter _ p q e

pub keyword_left : (asked : Keyword) (p q : Spot) → keyword asked p ≡ Some q → q.left ≡ p.left
keyword_left asked p q e = next_left _ p q e

pub name_shorter : (p : Spot) (x : Name × Spot) → name p ≡ Some x → length x.1.tokens < length p.tokens
name_shorter p x e = read_shorter name_of p x e

pub name_left : (p : Spot) (x : Name × Spot) → name p ≡ Some x → x.1.left ≡ p.left
name_left p x e = read_left name_of p x e

-- ---- nestings

opened_of_is : (n : ℕ) (p q : Spot) → opened_of n p ≡ Some q → (n ≡ suc q.left) × (q.tokens ≡ p.tokens)
opened_of_is zero p q e = (cc, cc)
opened_of_is (suc n) p q e = let same = some_same (record { left = n; after_name = p.after_name; tokens = p.tokens }) q e in (ap (λ r. suc r.left) same, sym (ap (λ r. r.tokens) same))

pub opened_is : (p q : Spot) → opened p ≡ Some q → (p.left ≡ suc q.left) × (q.tokens ≡ p.tokens)
unfolding opened
opened_is p q e = opened_of_is p.left p q e

pub opening_is : (sign : Sign) (p q : Spot) → opening sign p ≡ Some q → (r : Spot) × (after sign p ≡ Some r) × (opened r ≡ Some q)
opening_is sign p q e = then_some (after sign p) opened q e

pub opening_left : (sign : Sign) (p q : Spot) → opening sign p ≡ Some q → p.left ≡ suc q.left
opening_left sign p q e = let w = opening_is sign p q e in sym (after_left sign p w.0 w.1) ∙ (opened_is w.0 q w.2).0

pub opening_shorter : (sign : Sign) (p q : Spot) → opening sign p ≡ Some q → length q.tokens < length p.tokens
opening_shorter sign p q e = let w = opening_is sign p q e in omega (arith, after_shorter sign p w.0 w.1, ap length (opened_is w.0 q w.2).1)

pub resumed_is : (sign : Sign) (p q r : Spot) → resumed sign p q ≡ Some r → (t : Spot) × (after sign q ≡ Some t) × (r ≡ back p t)
resumed_is sign p q r e = let w = then_some (after sign q) (λ t. Some (back p t)) r e in (w.0, w.1, sym (some_same (back p w.0) r w.2))

pub resumed_left : (sign : Sign) (p q r : Spot) → resumed sign p q ≡ Some r → r.left ≡ p.left
resumed_left sign p q r e = ap (λ x. x.left) (resumed_is sign p q r e).2

pub resumed_shorter : (sign : Sign) (p q r : Spot) → resumed sign p q ≡ Some r → length r.tokens < length q.tokens
resumed_shorter sign p q r e = let w = resumed_is sign p q r e in omega (arith, after_shorter sign q w.0 w.1, ap (λ x. length x.tokens) w.2)

-- ---- what comes next

abbrev pub head_of : List Token → Option TokenKind
head_of [] = None
head_of (t ∷ ts) = Some t.kind

-- the kind of the next token
abbrev pub head : Spot → Option TokenKind
head p = head_of p.tokens

pub after_head : (sign : Sign) (p q : Spot) → after sign p ≡ Some q → head p ≡ Some (kind.Sign sign)
after_head sign p q e = let w = next_taken _ p q e in ap head_of w.0.split ∙ ap Some (is_sign_true sign w.0.token.kind w.1)

-- a sign with no line break before it comes next
pub joined_after : (sign : Sign) (p q : Spot) → joined sign p ≡ Some q → (w : Taken p q) × (w.token.after_break ≡ false) × (w.token.kind ≡ kind.Sign sign)
joined_after sign p q e =
    let w = next_taken _ p q e in
    let b = both_true (not w.0.token.after_break) (is_sign sign w.0.token.kind) w.1 in
    (w.0, not_true w.0.token.after_break b.0, is_sign_true sign w.0.token.kind b.1)

pub joined_head : (sign : Sign) (p q : Spot) → joined sign p ≡ Some q → head p ≡ Some (kind.Sign sign)
joined_head sign p q e = let w = joined_after sign p q e in ap head_of w.0.split ∙ ap Some w.2

pub keyword_head : (asked : Keyword) (p q : Spot) → keyword asked p ≡ Some q → head p ≡ Some (kind.Keyword asked)
keyword_head asked p q e = let w = next_taken _ p q e in ap head_of w.0.split ∙ ap Some (is_keyword_true asked w.0.token.kind w.1)

pub read_head : {A : Type 0} (table : TokenKind → Option A) (p : Spot) (x : A × Spot) → read table p ≡ Some x → (found : TokenKind) × (head p ≡ Some found) × (table found ≡ Some x.0)
read_head table p x e = let w = read_taken table p x e in (w.0.token.kind, ap head_of w.0.split, w.1)

pub name_head : (p : Spot) (x : Name × Spot) → name p ≡ Some x → head p ≡ Some (kind.Name x.0)
name_head p x e = let w = read_head name_of p x e in w.1 ∙ ap Some (name_of_some w.0 x.0 w.2)

pub resumed_head : (sign : Sign) (p q r : Spot) → resumed sign p q ≡ Some r → head q ≡ Some (kind.Sign sign)
resumed_head sign p q r e = let w = resumed_is sign p q r e in after_head sign q w.0 w.1

pub opening_head : (sign : Sign) (p q : Spot) → opening sign p ≡ Some q → head p ≡ Some (kind.Sign sign)
opening_head sign p q e = let w = opening_is sign p q e in after_head sign p w.0 w.1

-- two signs that come next are one
pub head_same : (a b : Sign) (p : Spot) → head p ≡ Some (kind.Sign a) → head p ≡ Some (kind.Sign b) → a ≡ b
head_same a b p e f = let c : Some (kind.Sign a) ≡ Some (kind.Sign b) = sym e ∙ f in cc

pub after_same : (a b : Sign) (p q r : Spot) → after a p ≡ Some q → after b p ≡ Some r → a ≡ b
after_same a b p q r e f = head_same a b p (after_head a p q e) (after_head b p r f)

-- of two different signs one comes next
pub not_after : (a b : Sign) (p : Spot) → (a ≡ b → ⊥) → head p ≡ Some (kind.Sign a) → after b p ≡ None
not_after a b p ne e = none_of (after b p) (λ q f. ne (head_same a b p e (after_head b p q f)))

pub not_joined : (a b : Sign) (p : Spot) → (a ≡ b → ⊥) → head p ≡ Some (kind.Sign a) → joined b p ≡ None
not_joined a b p ne e = none_of (joined b p) (λ q f. ne (head_same a b p e (joined_head b p q f)))

pub not_resumed : (a b : Sign) (p q : Spot) → (a ≡ b → ⊥) → head q ≡ Some (kind.Sign a) → resumed b p q ≡ None
not_resumed a b p q ne e = none_of (resumed b p q) (λ r f. ne (head_same a b q e (resumed_head b p q r f)))

pub other : (a b : Sign) (p q : Spot) → (a ≡ b → ⊥) → after a p ≡ Some q → after b p ≡ None
other a b p q ne e = not_after a b p ne (after_head a p q e)

pub other_joined : (a b : Sign) (p q : Spot) → (a ≡ b → ⊥) → joined a p ≡ Some q → joined b p ≡ None
other_joined a b p q ne e = not_joined a b p ne (joined_head a p q e)

pub other_resumed : (a b : Sign) (p q r : Spot) → (a ≡ b → ⊥) → resumed a p q ≡ Some r → after b q ≡ None
other_resumed a b p q r ne e = not_after a b q ne (resumed_head a p q r e)

-- a name or a keyword is no sign, and so on
pub name_no_sign : (sign : Sign) (n : Name) (p : Spot) → head p ≡ Some (kind.Name n) → after sign p ≡ None
name_no_sign sign n p e = none_of (after sign p) (λ q f. let c : Some (kind.Name n) ≡ Some (kind.Sign sign) = sym e ∙ after_head sign p q f in cc)

pub keyword_no_sign : (sign : Sign) (asked : Keyword) (p : Spot) → head p ≡ Some (kind.Keyword asked) → after sign p ≡ None
keyword_no_sign sign asked p e = none_of (after sign p) (λ q f. let c : Some (kind.Keyword asked) ≡ Some (kind.Sign sign) = sym e ∙ after_head sign p q f in cc)

pub sign_no_keyword : (asked : Keyword) (sign : Sign) (p : Spot) → head p ≡ Some (kind.Sign sign) → keyword asked p ≡ None
sign_no_keyword asked sign p e = none_of (keyword asked p) (λ q f. let c : Some (kind.Sign sign) ≡ Some (kind.Keyword asked) = sym e ∙ keyword_head asked p q f in cc)

pub name_no_keyword : (asked : Keyword) (n : Name) (p : Spot) → head p ≡ Some (kind.Name n) → keyword asked p ≡ None
name_no_keyword asked n p e = none_of (keyword asked p) (λ q f. let c : Some (kind.Name n) ≡ Some (kind.Keyword asked) = sym e ∙ keyword_head asked p q f in cc)

pub sign_no_name : (sign : Sign) (p : Spot) → head p ≡ Some (kind.Sign sign) → name p ≡ None
sign_no_name sign p e = none_of (name p) (λ x f. let c : Some (kind.Sign sign) ≡ Some (kind.Name x.0) = sym e ∙ name_head p x f in cc)

pub keyword_no_name : (asked : Keyword) (p : Spot) → head p ≡ Some (kind.Keyword asked) → name p ≡ None
keyword_no_name asked p e = none_of (name p) (λ x f. let c : Some (kind.Keyword asked) ≡ Some (kind.Name x.0) = sym e ∙ name_head p x f in cc)

-- any table at a token of a known kind
read_of_not : {A : Type 0} (table : TokenKind → Option A) (p : Spot) (ts : List Token) (found : TokenKind) → head_of ts ≡ Some found → table found ≡ None → read_of table p ts ≡ None
read_of_not table p [] found e f = cc
read_of_not table p (t ∷ ts) found e f = ap (λ o. then o (λ a. Some (a, behind p ts))) (ap table (some_same t.kind found e) ∙ f)

pub read_not : {A : Type 0} (table : TokenKind → Option A) (p : Spot) (found : TokenKind) → head p ≡ Some found → table found ≡ None → read table p ≡ None
unfolding read
read_not table p found e f = read_of_not table p p.tokens found e f

-- ---- how tightly the next token goes on, and what it begins

strength_of_token : (ts : List Token) (found : TokenKind) (rest : List Token) (t : Token) → ts ≡ t ∷ rest → t.kind ≡ found → (b : Bool) × (strength_of ts ≡ kind_strength b found)
strength_of_token ts found rest t e f = (t.after_break, ap strength_of e ∙ ap (kind_strength t.after_break) f)

head_token : (ts : List Token) (found : TokenKind) → head_of ts ≡ Some found → (t : Token) × (rest : List Token) × (ts ≡ t ∷ rest) × (t.kind ≡ found)
head_token [] found e = cc
head_token (t ∷ ts) found e = (t, ts, refl, some_same t.kind found e)

pub head_strength : (p : Spot) (found : TokenKind) → head p ≡ Some found → (b : Bool) × (token_strength p ≡ kind_strength b found)
head_strength p found e = let w = head_token p.tokens found e in strength_of_token p.tokens found w.1 w.0 w.2 w.3

pub head_start : (p : Spot) (found : TokenKind) → head p ≡ Some found → start p ≡ kind_start found
head_start p found e = let w = head_token p.tokens found e in ap start_of w.2 ∙ ap kind_start w.3

pub after_strength : (sign : Sign) (p q : Spot) → after sign p ≡ Some q → (b : Bool) × (token_strength p ≡ sign_strength b sign)
after_strength sign p q e = head_strength p (kind.Sign sign) (after_head sign p q e)

pub joined_strength : (sign : Sign) (p q : Spot) → joined sign p ≡ Some q → token_strength p ≡ sign_strength false sign
joined_strength sign p q e =
    let w = joined_after sign p q e in
    ap strength_of w.0.split ∙ ap (kind_strength w.0.token.after_break) w.2 ∙ ap (λ b. sign_strength b sign) w.1

-- a token that goes on weaker than the sign isn't the sign
pub weak_after : (sign : Sign) (p : Spot) (bound : ℕ) → ((b : Bool) → bound ≤ sign_strength b sign) → token_strength p < bound → after sign p ≡ None
weak_after sign p bound h lt = none_of (after sign p) (λ q e. let w = after_strength sign p q e in omega (arith, h w.0, w.1))

pub weak_joined : (sign : Sign) (p : Spot) → token_strength p < sign_strength false sign → joined sign p ≡ None
weak_joined sign p lt = none_of (joined sign p) (λ q e. omega (arith, joined_strength sign p q e))

-- ---- what is left is an end of the tokens

abbrev pub Ends : Spot → Spot → Type 0
Ends p q = (front : List Token) × (p.tokens ≡ front ++ q.tokens)

pub ends_same : (p : Spot) → Ends p p
ends_same p = ([], refl)

pub ends_trans : (p q r : Spot) → Ends p q → Ends q r → Ends p r
ends_trans p q r a b = (a.0 ++ b.0, a.1 ∙ ap (λ l. a.0 ++ l) b.1 ∙ sym (append_assoc a.0 b.0 r.tokens))

pub taken_ends : (p q : Spot) → Taken p q → Ends p q
taken_ends p q w = (w.token ∷ [], w.split)

pub next_ends : (test : Bool → TokenKind → Bool) (p q : Spot) → next test p ≡ Some q → Ends p q
next_ends test p q e = taken_ends p q (next_taken test p q e).0

pub read_ends : {A : Type 0} (table : TokenKind → Option A) (p : Spot) (x : A × Spot) → read table p ≡ Some x → Ends p x.1
read_ends table p x e = taken_ends p x.1 (read_taken table p x e).0

pub after_ends : (sign : Sign) (p q : Spot) → after sign p ≡ Some q → Ends p q
after_ends sign p q e = next_ends _ p q e

pub joined_ends : (sign : Sign) (p q : Spot) → joined sign p ≡ Some q → Ends p q
joined_ends sign p q e = next_ends _ p q e

pub keyword_ends : (asked : Keyword) (p q : Spot) → keyword asked p ≡ Some q → Ends p q
keyword_ends asked p q e = next_ends _ p q e

pub name_ends : (p : Spot) (x : Name × Spot) → name p ≡ Some x → Ends p x.1
name_ends p x e = read_ends name_of p x e

pub opened_ends : (p q : Spot) → opened p ≡ Some q → Ends p q
opened_ends p q e = ([], sym (opened_is p q e).1)

pub opening_ends : (sign : Sign) (p q : Spot) → opening sign p ≡ Some q → Ends p q
opening_ends sign p q e = let w = opening_is sign p q e in ends_trans p w.0 q (after_ends sign p w.0 w.1) (opened_ends w.0 q w.2)

pub resumed_ends : (sign : Sign) (p q r : Spot) → resumed sign p q ≡ Some r → Ends q r
resumed_ends sign p q r e = let w = resumed_is sign p q r e in let d = after_ends sign q w.0 w.1 in (d.0, d.1 ∙ ap (λ x. d.0 ++ x.tokens) (sym w.2))
