-- Type arguments that a `(` follows pass the walk over their tokens.
use Rattle.std.proofs.Common.{◌≡◌, ℕ, zero, suc, ◌+◌, ◌-◌, ◌≤◌, ◌==◌, Bool, true, false, if◌then◌else◌, List, [], ◌∷◌, Option, Some, None, refl, sym, ap, ◌∙◌, arith}
use Rattle.std.proofs.lemmas.Bool.Decides.{nat_tests}
use Rattle.cad_grammar.specs.declared.token.Sign.{Sign}
use Rattle.cad_grammar.specs.declared.token.Sign.TheVariants as s
use Rattle.cad_syntax.specs.declared.keyword.Keyword.TheVariants as k
use Rattle.cad_grammar.specs.declared.token.TokenKind.TheVariants as kind
use Rattle.cad_syntax.specs.declared.text.Name.{Name}
use Rattle.cad_grammar.specs.declared.level.TypePosition.{TypePosition}
use Rattle.cad_grammar.specs.declared.type_expr.Entitlements.{Entitlements}
use Rattle.cad_grammar.specs.Trees.{TypeTree, Annotation}
use Rattle.cad_grammar.specs.Spots.{Spot, back, ◌>>=◌, only_if, after, keyword, name_of, name, opened, opening, resumed}
use Rattle.cad_grammar.specs.Lists.{Listed, Maybe}
use Rattle.cad_grammar.specs.Lists as l
use Rattle.cad_grammar.specs.TypeGrammar.{Dotted, Alternatives, Entitled, Authorized, ReadsType, ReadsCore, ReadsAnnotation, AnnotationList}
use Rattle.cad_grammar.specs.TypeGrammar as g
use Rattle.cad_parse_type.specs.Code.Reading.{Found, arguments_at}
use Rattle.cad_parse_type.proofs.Heads.{Taken, next_taken, read_taken, head_of, after_head, keyword_head, name_head, some_same, after_left, keyword_left, opened_is, opening_is, opening_left, resumed_is, resumed_left}
use Rattle.cad_parse_type.proofs.Climbs.{then_is}
use Rattle.cad_parse_type.proofs.Over.{question_after, questions_after}
use Rattle.cad_parse_type.proofs.Whole.{type_laws as types}
use Rattle.cad_parse_expr.specs.declared.closing.Mark.{Mark}
use Rattle.cad_parse_expr.specs.declared.closing.Mark.TheVariants as mark
use Rattle.cad_parse_expr.specs.Code.Closing.{sign_mark, mark_of, is_parenthesis, opens_call, turn, walk, closes}
use Rattle.cad_parse_expr.specs.Code.Reading.{type_arguments}

-- ---- how the walk goes on

-- over tokens that no `>` stands before
abbrev Goes : Spot → Spot → Type 0
Goes p q = (room nested : ℕ) → walk p.tokens room nested false ≡ walk q.tokens room nested false

-- over tokens that one may stand before
abbrev Follows : Spot → Spot → Type 0
Follows p q = (room nested : ℕ) (behind : Bool) → walk p.tokens room nested behind ≡ walk q.tokens room nested false

-- over tokens that may end with a `>`, where as many nestings are left as the walk may open
abbrev Passes : Spot → Spot → Type 0
Passes p q = (room nested : ℕ) → p.left ≤ room → (behind : Bool) × (walk p.tokens room nested false ≡ walk q.tokens room nested behind)

-- up to a `>`, behind which stands what stands at q
abbrev Ends : Spot → Spot → Type 0
Ends p q = (room nested : ℕ) → p.left ≤ room
    → (behind : Bool) × (r : Spot) × (t : Spot) × (walk p.tokens room nested false ≡ walk r.tokens room nested behind) × (after s.Greater r ≡ Some t) × (t.tokens ≡ q.tokens)

goes_trans : (p q r : Spot) → Goes p q → Goes q r → Goes p r
goes_trans p q r h i = λ room nested. h room nested ∙ i room nested

goes_follows : (p q r : Spot) → Goes p q → Follows q r → Goes p r
goes_follows p q r h i = λ room nested. h room nested ∙ i room nested false

passed : (p q : Spot) → Goes p q → Passes p q
passed p q h = λ room nested le. (false, h room nested)

goes_passes : (p q r : Spot) → Goes p q → q.left ≤ p.left → Passes q r → Passes p r
goes_passes p q r h fall d = λ room nested le. let w = d room nested (omega (arith, fall, le)) in (w.0, h room nested ∙ w.1)

passes_follows : (p q r : Spot) → Passes p q → Follows q r → Passes p r
passes_follows p q r d h = λ room nested le. let w = d room nested le in (false, w.1 ∙ h room nested w.0)

passes_trans : (p q r t : Spot) → Passes p q → Follows q r → r.left ≤ p.left → Passes r t → Passes p t
passes_trans p q r t d h fall e = λ room nested le.
    let v = d room nested le in
    let w = e room nested (omega (arith, fall, le)) in
    (w.0, v.1 ∙ h room nested v.0 ∙ w.1)

-- ---- one token

taken_turn : (p q : Spot) (w : Taken p q) (m : Mark) → mark_of w.token.kind ≡ m → (room nested : ℕ) (behind : Bool)
    → walk p.tokens room nested behind ≡ turn (walk q.tokens) (opens_call q.tokens) m room nested behind
unfolding walk
taken_turn p q w m e room nested behind =
    ap (λ ts. walk ts room nested behind) w.split ∙ ap (λ x. turn (walk q.tokens) (opens_call q.tokens) x room nested behind) e

sign_taken : (sign : Sign) (p q : Spot) → after sign p ≡ Some q → (w : Taken p q) × (w.token.kind ≡ kind.Sign sign)
sign_taken sign p q e =
    let w = next_taken _ p q e in
    (w.0, some_same w.0.token.kind (kind.Sign sign) (sym (ap head_of w.0.split) ∙ after_head sign p q e))

sign_turn : (sign : Sign) (p q : Spot) → after sign p ≡ Some q → (room nested : ℕ) (behind : Bool)
    → walk p.tokens room nested behind ≡ turn (walk q.tokens) (opens_call q.tokens) (sign_mark sign) room nested behind
sign_turn sign p q e = let w = sign_taken sign p q e in taken_turn p q w.0 (sign_mark sign) (ap mark_of w.1)

after_goes : (sign : Sign) (p q : Spot) → sign_mark sign ≡ mark.Begins → after sign p ≡ Some q → Goes p q
after_goes sign p q m e = λ room nested. sign_turn sign p q e room nested false ∙ ap (λ x. turn (walk q.tokens) (opens_call q.tokens) x room nested false) m

after_follows : (sign : Sign) (p q : Spot) → sign_mark sign ≡ mark.Follows → after sign p ≡ Some q → Follows p q
after_follows sign p q m e = λ room nested behind. sign_turn sign p q e room nested behind ∙ ap (λ x. turn (walk q.tokens) (opens_call q.tokens) x room nested behind) m

resumed_follows : (sign : Sign) (p q r : Spot) → sign_mark sign ≡ mark.Follows → resumed sign p q ≡ Some r → Follows q r
resumed_follows sign p q r m e = λ room nested behind.
    let w = resumed_is sign p q r e in
    after_follows sign q w.0 m w.1 room nested behind ∙ ap (λ u. walk u.tokens room nested false) (sym w.2)

opened_goes : (p q : Spot) → opened p ≡ Some q → Goes p q
opened_goes p q e = λ room nested. ap (λ ts. walk ts room nested false) (sym (opened_is p q e).1)

opened_follows : (p q r : Spot) → Follows p q → opened q ≡ Some r → Follows p r
opened_follows p q r h e = λ room nested behind. h room nested behind ∙ opened_goes q r e room nested

opening_goes : (sign : Sign) (p q : Spot) → sign_mark sign ≡ mark.Begins → opening sign p ≡ Some q → Goes p q
opening_goes sign p q m e = let w = opening_is sign p q e in goes_trans p w.0 q (after_goes sign p w.0 m w.1) (opened_goes w.0 q w.2)

keyword_goes : (p q : Spot) → keyword k.Auth p ≡ Some q → Goes p q
keyword_goes p q e =
    let w = next_taken _ p q e in
    let same = some_same w.0.token.kind (kind.Keyword k.Auth) (sym (ap head_of w.0.split) ∙ keyword_head k.Auth p q e) in
    λ room nested. taken_turn p q w.0 mark.Begins (ap mark_of same) room nested false

name_goes : (p : Spot) (x : Name × Spot) → name p ≡ Some x → Goes p x.1
name_goes p x e =
    let w = read_taken name_of p x e in
    let same = some_same w.0.token.kind (kind.Name x.0) (sym (ap head_of w.0.split) ∙ name_head p x e) in
    λ room nested. taken_turn p x.1 w.0 mark.Begins (ap mark_of same) room nested false

filled : (n : ℕ) → (suc n == 0) ≡ false
filled n = grind (arith, nat_tests)

-- a `<` behind a name
less_turn : (p q : Spot) → opening s.Less p ≡ Some q → (room nested : ℕ) → walk p.tokens (suc room) nested false ≡ walk q.tokens room (suc nested) false
less_turn p q e room nested =
    let w = opening_is s.Less p q e in
    let down : suc room - 1 ≡ room = omega arith in
    let up : nested + 1 ≡ suc nested = omega arith in
    sign_turn s.Less p w.0 w.1 (suc room) nested false ∙ ap (λ b. if b then false else walk w.0.tokens (suc room - 1) (nested + 1) false) (filled room)
    ∙ ap (λ n. walk w.0.tokens n (nested + 1) false) down ∙ ap (λ n. walk w.0.tokens room n false) up
    ∙ opened_goes w.0 q w.2 room (suc nested)

-- its `>`
greater_turn : (p q : Spot) → after s.Greater p ≡ Some q → (room nested : ℕ) (behind : Bool) → walk p.tokens room (suc nested) behind ≡ walk q.tokens (suc room) nested true
greater_turn p q e room nested behind =
    let down : suc nested - 1 ≡ nested = omega arith in
    let up : room + 1 ≡ suc room = omega arith in
    sign_turn s.Greater p q e room (suc nested) behind ∙ ap (λ b. if b then opens_call q.tokens else walk q.tokens (room + 1) (suc nested - 1) true) (filled nested)
    ∙ ap (λ n. walk q.tokens (room + 1) n true) down ∙ ap (λ n. walk q.tokens n nested true) up

-- the `>` of the first
last_turn : (p q : Spot) → after s.Greater p ≡ Some q → (room : ℕ) (behind : Bool) → walk p.tokens room 0 behind ≡ opens_call q.tokens
last_turn p q e room behind = sign_turn s.Greater p q e room 0 behind

-- ---- names and entitlements

dotted_goes : {p q : Spot} {n : List Name} → Dotted p n q → Goes p q
dotted_goes (g.single {p} {q} {n} e) = name_goes p (n, q) e
dotted_goes (g.further {p} {q} {r} {t} {n} e d w) = goes_trans p q t (name_goes p (n, q) e) (goes_trans q r t (after_goes s.Dot q r refl d) (dotted_goes w))

names_go : {closing : Sign} {p q : Spot} {all : List (List Name)} → sign_mark closing ≡ mark.Follows → Listed Dotted closing p all q → Goes p q
names_go {closing} m (l.none {p} {q} e) = λ room nested. after_follows closing p q m e room nested false
names_go {closing} m (l.last {p} {q} {r} d e) = goes_follows p q r (dotted_goes d) (resumed_follows closing p q r m e)
names_go {closing} m (l.more {p} {q} {r} {t} d e w) = goes_trans p r t (goes_follows p q r (dotted_goes d) (resumed_follows s.Comma p q r refl e)) (names_go m w)

alternatives_go : {p q : Spot} {all : List (List Name)} → Alternatives p all q → Goes p q
alternatives_go (g.last_alternative {p} {q} {r} d e) = goes_follows p q r (dotted_goes d) (after_follows s.CloseParenthesis q r refl e)
alternatives_go (g.more_alternatives {p} {q} {r} {t} d e w) = goes_trans p q t (dotted_goes d) (goes_trans q r t (after_goes s.Bar q r refl e) (alternatives_go w))

entitled_goes : {p q : Spot} {e : Entitlements} → Entitled p e q → Goes p q
entitled_goes (g.all_of d) = names_go refl d
entitled_goes (g.any_of {p} {q} {r} {t} d e w) = goes_trans p q t (dotted_goes d) (goes_trans q r t (after_goes s.Bar q r refl e) (alternatives_go w))

authorized_goes : {p q : Spot} {e : Entitlements} → Authorized p e q → Goes p q
authorized_goes (g.authorized {p} {q} {r} o d) = goes_trans p q r (opening_goes s.OpenParenthesis p q refl o) (entitled_goes d)

authorized_same : {p q : Spot} {e : Entitlements} → Authorized p e q → q.left ≡ p.left
authorized_same (g.authorized o d) = refl

authorization_goes : {p q : Spot} {a : Option Entitlements} → Maybe (keyword k.Auth) Authorized p a q → Goes p q
authorization_goes (l.absent e) = λ room nested. refl
authorization_goes (l.present {p} {q} {r} e d) = goes_trans p q r (keyword_goes p q e) (authorized_goes d)

authorization_left : {p q : Spot} {a : Option Entitlements} → Maybe (keyword k.Auth) Authorized p a q → q.left ≡ p.left
authorization_left (l.absent e) = refl
authorization_left (l.present {p} {q} {r} e d) = authorized_same d ∙ keyword_left k.Auth p q e

-- ---- types

-- names and the type arguments behind them
applied_passes : (p q r u t : Spot) → Goes p q → q.left ≡ p.left → opening s.Less q ≡ Some r → Ends r u → t.tokens ≡ u.tokens → Passes p t
applied_passes p q r u t h left o d same zero nested le = let never : ⊥ = omega (arith, left, le, opening_left s.Less q r o) in absurd never
applied_passes p q r u t h left o d same (suc room) nested le =
    let w = d room (suc nested) (omega (arith, left, le, opening_left s.Less q r o)) in
    (true, h (suc room) nested ∙ less_turn q r o room nested ∙ w.3 ∙ greater_turn w.1 w.2 w.4 room nested w.0 ∙ ap (λ ts. walk ts (suc room) nested true) (w.5 ∙ sym same))

mutual
  type_passes : {at : TypePosition} {p q : Spot} {t : TypeTree} → ReadsType at p t q → Passes p q
  type_passes (g.core d) = core_passes d
  type_passes (g.optional {at} {p} {q} {r} {u} d e o) =
      passes_follows p q u (type_passes d) (opened_follows q r u (after_follows s.Question q r refl (question_after at q r e)) o)
  type_passes (g.twice {at} {p} {q} {r} {u} {v} d e o o2) =
      passes_follows p q v (type_passes d) (opened_follows q u v (opened_follows q r u (after_follows s.Coalesce q r refl (questions_after at q r e)) o) o2)

  core_passes : {p q : Spot} {t : TypeTree} → ReadsCore p t q → Passes p q
  core_passes (g.reference {p} {q} {r} {u} {v} m e o d) =
      goes_passes p u v (goes_trans p q u (authorization_goes m) (goes_trans q r u (after_goes s.Ampersand q r refl e) (opened_goes r u o)))
      (omega (arith, authorization_left m, after_left s.Ampersand q r e, (opened_is r u o).0)) (core_passes d)
  core_passes (g.grouped {p} {q} {r} {u} o d c) =
      goes_passes p q u (opening_goes s.OpenParenthesis p q refl o) (omega (arith, opening_left s.OpenParenthesis p q o)) (passes_follows q r u (type_passes d) (resumed_follows s.CloseParenthesis p r u refl c))
  core_passes (g.array {p} {q} {r} {u} o d c) =
      goes_passes p q u (opening_goes s.OpenBracket p q refl o) (omega (arith, opening_left s.OpenBracket p q o))
      (passes_follows q r u (type_passes d) (resumed_follows s.CloseBracket p r u refl c))
  core_passes (g.dictionary {p} {q} {r} {u} {v} {w} o d c d2 c2) =
      goes_passes p q w (opening_goes s.OpenBrace p q refl o) (omega (arith, opening_left s.OpenBrace p q o))
      (passes_trans q r u w (type_passes d) (resumed_follows s.Colon q r u refl c) (omega (arith, resumed_left s.Colon q r u c))
      (passes_follows u v w (type_passes d2) (resumed_follows s.CloseBrace p v w refl c2)))
  core_passes (g.intersection {p} {q} {r} o (g.intersected d)) =
      passed p r (goes_trans p q r (opening_goes s.OpenBrace p q refl o) (names_go refl d))
  core_passes (g.named {p} {q} d m e) = passed p q (dotted_goes d)
  core_passes (g.applied {p} {q} {r} {u} d o w) = applied_passes p q r u (back q u) (dotted_goes d) (types.dotted_left d) o (arguments_end w) refl

  annotation_passes : {at : TypePosition} {p q : Spot} {a : Annotation} → ReadsAnnotation at p a q → Passes p q
  annotation_passes (g.plain d) = type_passes d
  annotation_passes (g.resource {p = p} {q = q} {r = r} e d) =
      goes_passes p q r (after_goes s.At p q refl e) (omega (arith, after_left s.At p q e)) (type_passes d)

  arguments_end : {p q : Spot} {all : List Annotation} → AnnotationList p all q → Ends p q
  arguments_end (g.no_annotation {p} {q} e) = λ room nested le. (false, p, q, refl, e, refl)
  arguments_end (g.last_annotation {p} {q} {r} d e) = λ room nested le.
      let v = annotation_passes d room nested le in
      let w = resumed_is s.Greater p q r e in
      (v.0, q, w.0, v.1, w.1, ap (λ u. u.tokens) (sym w.2))
  arguments_end (g.more_annotations {p} {q} {r} {u} d e w) = λ room nested le.
      let v = annotation_passes d room nested le in
      let x = arguments_end w room nested (omega (arith, le, resumed_left s.Comma p q r e)) in
      (x.0, x.1, x.2, v.1 ∙ resumed_follows s.Comma p q r refl e room nested v.0 ∙ x.3, x.4, x.5)

-- ---- the law

opens_call_is : (p q : Spot) → after s.OpenParenthesis p ≡ Some q → opens_call p.tokens ≡ true
opens_call_is p q e = let w = sign_taken s.OpenParenthesis p q e in ap opens_call w.0.split ∙ ap is_parenthesis w.1

list_closes : {p q : Spot} {all : List Annotation} (r : Spot) → AnnotationList p all q → after s.OpenParenthesis q ≡ Some r → closes p ≡ true
list_closes {p} {q} r d e =
    let w = arguments_end d p.left 0 (omega arith) in
    w.3 ∙ last_turn w.1 w.2 w.4 p.left w.0 ∙ ap opens_call w.5 ∙ opens_call_is q r e

-- Where type arguments are read and a `(` follows, the walk tells so.
pub arguments_close : (q r : Spot) (x : List Annotation × Spot) → arguments_at q ≡ Some x → after s.OpenParenthesis x.1 ≡ Some r → closes q ≡ true
arguments_close q r ([], t) d c = absurd (types.arguments_filled q t d)
arguments_close q r (a ∷ all, t) d c = list_closes r (types.arguments_sound q a all t d) c

-- so where it doesn't, none are read
uncalled : {A : Type 0} (q : Spot) (f : List Annotation × Spot → Spot → Option A) (x : List Annotation × Spot) (c : Option Spot) → closes q ≡ false
    → arguments_at q ≡ Some x → after s.OpenParenthesis x.1 ≡ c → (c >>= f x) ≡ None
uncalled q f x None fails e d = refl
uncalled q f x (Some r) fails e d = let both = sym fails ∙ arguments_close q r x e d in cc

followed : {A : Type 0} (q : Spot) (f : List Annotation × Spot → Spot → Option A) (o : Found (List Annotation)) → closes q ≡ false → arguments_at q ≡ o
    → (o >>= (λ all. after s.OpenParenthesis all.1 >>= f all)) ≡ None
followed q f None fails e = refl
followed q f (Some x) fails e = uncalled q f x (after s.OpenParenthesis x.1) fails e refl

pub none_close : (p q : Spot) → p.after_name ≡ true → opening s.Less p ≡ Some q → closes q ≡ false → type_arguments p ≡ None
unfolding type_arguments
none_close p q b o fails =
    then_is (only_if p.after_name p >>= opening s.Less) _ q (ap (λ x. only_if x p >>= opening s.Less) b ∙ o)
    ∙ followed q _ (arguments_at q) fails refl
