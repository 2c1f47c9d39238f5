-- The first token of a declaration and of a member.
use Rattle.std.proofs.Common.{◌≡◌, ◌⊎◌, inl, inr, ℕ, Bool, true, false, ◌==◌, List, codes, Option, Some, None, refl, sym, ap, ◌∙◌}
use Rattle.cad_grammar.specs.declared.token.Sign.{Sign}
use Rattle.cad_syntax.specs.declared.keyword.Keyword.{Keyword}
use Rattle.cad_syntax.specs.declared.keyword.Keyword.TheVariants as k
use Rattle.cad_grammar.specs.declared.token.TokenKind.{TokenKind}
use Rattle.cad_grammar.specs.declared.token.TokenKind.TheVariants as kind
use Rattle.cad_syntax.specs.declared.text.Name.{Name}
use Rattle.cad_syntax.proofs.Same.{lists_tell, numbers_tell}
use Rattle.cad_grammar.specs.declared.statement.VariableKind.{VariableKind}
use Rattle.cad_grammar.specs.declared.declaration.CompositeKind.{CompositeKind}
use Rattle.cad_grammar.specs.Spots.{Spot, then, either, is_word, after, keyword, word, read}
use Rattle.cad_parse_type.specs.Code.Levels.{kind_strength, token_strength}
use Rattle.cad_grammar.specs.StatementGrammar.{variable_word, variable_kind_of}
use Rattle.cad_grammar.specs.ProgramGrammar.{viewed, composite_kind_of}
use Rattle.cad_parse_type.proofs.Heads.{none_of, some_same, then_some, head, head_of, next_taken, head_strength, read_head, read_not, keyword_head, after_head}

-- a keyword or a name comes next that goes on nothing
pub record Begins (p : Spot) : Type 0 where
  pub found : TokenKind
  pub is : head p ≡ Some found
  pub weak : (b : Bool) → kind_strength b found ≡ 0
  pub no_sign : (sign : Sign) → found ≡ kind.Sign sign → ⊥

pub begins_weak : (p : Spot) → Begins p → token_strength p ≡ 0
begins_weak p w = let h = head_strength p w.found w.is in h.1 ∙ w.weak h.0

pub begins_no_sign : (sign : Sign) (p : Spot) → Begins p → after sign p ≡ None
begins_no_sign sign p w = none_of (after sign p) (λ q e. w.no_sign sign (some_same w.found (kind.Sign sign) (sym w.is ∙ after_head sign p q e)))

-- ---- keywords and words

pub not_keyword : (asked other : Keyword) (p : Spot) → (asked ≡ other → ⊥) → head p ≡ Some (kind.Keyword other) → keyword asked p ≡ None
not_keyword asked other p ne e = none_of (keyword asked p) (λ q f. ne (same (sym (keyword_head asked p q f) ∙ e)))
  where
    same : {a b : Keyword} → ◌≡◌ {A = Option TokenKind} (Some (kind.Keyword a)) (Some (kind.Keyword b)) → a ≡ b
    same e = cc e

is_word_name : (text : List ℕ) (found : TokenKind) → is_word text found ≡ true → (n : Name) × (found ≡ kind.Name n) × (n.0 ≡ text)
is_word_name text (kind.Name n) e = (n, refl, (lists_tell ◌==◌ numbers_tell n.0 text).0 e)
is_word_name text _ e = cc

-- a name that is spelled so comes next
pub word_head : (text : List ℕ) (p q : Spot) → word text p ≡ Some q → (n : Name) × (head p ≡ Some (kind.Name n)) × (n.0 ≡ text)
word_head text p q e =
    let w = next_taken _ p q e in
    let v = is_word_name text w.0.token.kind w.1 in
    (v.0, ap head_of w.0.split ∙ ap Some v.1, v.2)

name_same : (m n : Name) → ◌≡◌ {A = Option TokenKind} (Some (kind.Name m)) (Some (kind.Name n)) → m ≡ n
name_same m n e = cc

-- of two different words one comes next
pub not_word : (asked other : List ℕ) (p q : Spot) → (asked ≡ other → ⊥) → word other p ≡ Some q → word asked p ≡ None
not_word asked other p q ne e = none_of (word asked p) (λ r f.
    let w = word_head other p q e in
    let v = word_head asked p r f in
    ne (sym v.2 ∙ ap (λ n. n.0) (name_same v.0 w.0 (sym v.1 ∙ w.1)) ∙ w.2))

pub keyword_no_word : (asked : List ℕ) (other : Keyword) (p : Spot) → head p ≡ Some (kind.Keyword other) → word asked p ≡ None
keyword_no_word asked other p e = none_of (word asked p) (λ q f. let w = word_head asked p q f in never (sym e ∙ w.1))
  where
    never : {n : Name} → ◌≡◌ {A = Option TokenKind} (Some (kind.Keyword other)) (Some (kind.Name n)) → ⊥
    never e = cc e

pub word_no_keyword : (asked : Keyword) (other : List ℕ) (p q : Spot) → word other p ≡ Some q → keyword asked p ≡ None
word_no_keyword asked other p q e = none_of (keyword asked p) (λ r f. let w = word_head other p q e in never (sym (keyword_head asked p r f) ∙ w.1))
  where
    never : {n : Name} → ◌≡◌ {A = Option TokenKind} (Some (kind.Keyword asked)) (Some (kind.Name n)) → ⊥
    never e = cc e

pub keyword_begins : (asked : Keyword) (p q : Spot) → ((b : Bool) → kind_strength b (kind.Keyword asked) ≡ 0) → keyword asked p ≡ Some q → Begins p
keyword_begins asked p q w e = record { found = kind.Keyword asked; is = keyword_head asked p q e; weak = w; no_sign = λ sign f. never f }
  where
    never : {sign : Sign} → kind.Keyword asked ≡ kind.Sign sign → ⊥
    never e = cc e

pub named_begins : (p : Spot) (n : Name) → head p ≡ Some (kind.Name n) → Begins p
named_begins p n e = record { found = kind.Name n; is = e; weak = λ b. refl; no_sign = λ sign f. never f }
  where
    never : {sign : Sign} → kind.Name n ≡ kind.Sign sign → ⊥
    never e = cc e

-- ---- `view` and a keyword

viewed_of : (asked : Keyword) (p : Spot) (x : Bool × Spot) (o r : Option Spot) → either o (λ q. then (keyword asked q) (λ r. Some (true, r))) (then r (λ r. Some (false, r))) ≡ Some x
    → ((q : Spot) × (o ≡ Some q)) ⊎ ((q : Spot) × (r ≡ Some q))
viewed_of asked p x (Some q) r e = inl (q, refl)
viewed_of asked p x None r e = let w = then_some r _ x e in inr (w.0, w.1)

-- the word `view` or the keyword comes next
pub viewed_is : (asked : Keyword) (p : Spot) (x : Bool × Spot) → viewed asked p ≡ Some x → ((q : Spot) × (word (codes "view") p ≡ Some q)) ⊎ ((q : Spot) × (keyword asked p ≡ Some q))
unfolding viewed
viewed_is asked p x e = viewed_of asked p x (word (codes "view") p) (keyword asked p) e

abbrev pub View : Keyword → Spot → Type 0
View asked p = ((q : Spot) × (word (codes "view") p ≡ Some q)) ⊎ ((q : Spot) × (keyword asked p ≡ Some q))

pub view_begins : (asked : Keyword) (p : Spot) → ((b : Bool) → kind_strength b (kind.Keyword asked) ≡ 0) → View asked p → Begins p
view_begins asked p w (inl v) = let h = word_head (codes "view") p v.0 v.1 in named_begins p h.0 h.1
view_begins asked p w (inr v) = keyword_begins asked p v.0 w v.1

pub view_no_keyword : (asked other : Keyword) (p : Spot) → (asked ≡ other → ⊥) → View other p → keyword asked p ≡ None
view_no_keyword asked other p ne (inl v) = word_no_keyword asked (codes "view") p v.0 v.1
view_no_keyword asked other p ne (inr v) = not_keyword asked other p ne (keyword_head other p v.0 v.1)

pub view_no_word : (asked : List ℕ) (other : Keyword) (p : Spot) → (asked ≡ codes "view" → ⊥) → View other p → word asked p ≡ None
view_no_word asked other p ne (inl v) = not_word asked (codes "view") p v.0 ne v.1
view_no_word asked other p ne (inr v) = keyword_no_word asked other p (keyword_head other p v.0 v.1)

-- a table that has neither names nor the keyword
pub view_no_read : {A : Type 0} (table : TokenKind → Option A) (other : Keyword) (p : Spot) → ((n : Name) → table (kind.Name n) ≡ None) → table (kind.Keyword other) ≡ None → View other p → read table p ≡ None
view_no_read table other p none lacks (inl v) = let h = word_head (codes "view") p v.0 v.1 in read_not table p (kind.Name h.0) h.1 (none h.0)
view_no_read table other p none lacks (inr v) = read_not table p (kind.Keyword other) (keyword_head other p v.0 v.1) lacks

-- ---- `let` and `var`, `struct` and `resource`

variable_kinds : (found : TokenKind) (v : VariableKind) → variable_kind_of found ≡ Some v → (w : Keyword) × (found ≡ kind.Keyword w) × ((b : Bool) → kind_strength b found ≡ 0)
variable_kinds (kind.Keyword k.Let) v e = (k.Let, refl, λ b. refl)
variable_kinds (kind.Keyword k.Var) v e = (k.Var, refl, λ b. refl)
variable_kinds _ v e = cc

pub variable_weak : (p : Spot) (x : VariableKind × Spot) → variable_word p ≡ Some x → token_strength p ≡ 0
variable_weak p x e =
    let w = read_head variable_kind_of p x e in
    let v = variable_kinds w.0 x.0 w.2 in
    let h = head_strength p w.0 w.1 in
    h.1 ∙ v.2 h.0

composite_kinds : (found : TokenKind) (c : CompositeKind) → composite_kind_of found ≡ Some c → variable_kind_of found ≡ None
composite_kinds (kind.Keyword k.Struct) c e = refl
composite_kinds (kind.Keyword k.Resource) c e = refl
composite_kinds _ c e = cc

pub composite_no_variable : (p : Spot) (x : CompositeKind × Spot) → read composite_kind_of p ≡ Some x → variable_word p ≡ None
composite_no_variable p x e = let w = read_head composite_kind_of p x e in read_not variable_kind_of p w.0 w.1 (composite_kinds w.0 x.0 w.2)
