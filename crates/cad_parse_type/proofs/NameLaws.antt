-- Dotted names, lists of them and entitlements.
use Rattle.std.proofs.Common.{◌≡◌, ℕ, zero, suc, ◌<◌, ◌≤◌, List, [], ◌∷◌, ◌++◌, length, Some, None, refl, sym, ap, ◌∙◌, subst, arith, append_assoc, ◌⊎◌, inl, inr}
use Rattle.cad_grammar.specs.declared.token.Sign.{Sign}
use Rattle.cad_grammar.specs.declared.token.Sign.TheVariants as s
use Rattle.cad_grammar.specs.declared.token.TokenKind.TheVariants as kind
use Rattle.cad_syntax.specs.declared.text.Name.{Name}
use Rattle.cad_grammar.specs.declared.type_expr.Entitlements.{Entitlements}
use Rattle.cad_grammar.specs.declared.type_expr.Entitlements.TheVariants as entitlements
use Rattle.cad_grammar.specs.Spots.{Spot, after, name, opened}
use Rattle.cad_grammar.specs.Lists.{Listed}
use Rattle.cad_grammar.specs.Lists as l
use Rattle.cad_grammar.specs.TypeGrammar.{dot_name, Dotted, Alternatives, Entitled, Authorized}
use Rattle.cad_grammar.specs.TypeGrammar as g
use Rattle.cad_parse_type.specs.Code.Reading.{Found, Reader, climb, appended, filled, dotted, dotted_list, entitled}
use Rattle.cad_parse_type.specs.Code.Reading as r
use Rattle.cad_parse_type.proofs.Heads.{some_same, then_some, head, name_head, other, name_no_sign, resumed_is, after_shorter, after_left, after_ends, name_shorter, name_left, name_ends, opening_is, opening_shorter, opening_ends, Ends, ends_trans}
use Rattle.cad_parse_type.proofs.Climbs.{then_is, then_not, either_is, either_not, IfFound, then_found, either_found, found_is, found_weaker, Shrinks, climb_stops, climb_more, climb_gives, climb_over, climb_keeps}
use Rattle.cad_parse_type.proofs.ListLaws.{ReadBefore, AllShorter, AllEnd, listed_sound, listed_read, listed_exact, listed_shorter, listed_left, listed_ends}
use Rattle.cad_parse_type.proofs.TypeLaws.{Extends, Reaches}

-- a chain that went on as far as here
pub climbed : {A T : Type 0} (grow : A → T → A) (tail : Reader T) → Shrinks tail → (found : Found A) (a : A) (q : Spot)
    → found ≡ climb grow tail (length q.tokens) a q → Reaches (tail q ≡ None) found a q
climbed grow tail h found a q e =
    let w = climb_gives grow tail h (length q.tokens) a q in
    (w.0, e ∙ w.1, w.2, λ over. some_same w.0 (a, q) (sym w.1 ∙ climb_stops grow tail (length q.tokens) a q over))

pub reached : {A : Type 0} {Over : Type 0} {found : Found A} {a : A} {q : Spot} → Reaches Over found a q → Over → found ≡ Some (a, q)
reached w over = w.1 ∙ ap Some (w.3 over)

pub extends_trans : {A : Type 0} (x y z : A × Spot) → Extends x y → Extends y z → Extends x z
extends_trans x y z (inl e) (inl f) = inl (e ∙ f)
extends_trans x y z (inl e) (inr lt) = inr (omega (arith, ap (λ w. length w.1.tokens) e))
extends_trans x y z (inr lt) (inl f) = inr (omega (arith, ap (λ w. length w.1.tokens) f))
extends_trans x y z (inr lt) (inr lu) = inr (omega arith)

pub extends_mapped : {A B : Type 0} (f : A → B) (x y : A × Spot) → Extends x y → Extends {A = B} (f x.0, x.1) (f y.0, y.1)
extends_mapped f x y (inl e) = inl (ap (λ z. (f z.0, z.1)) e)
extends_mapped f x y (inr lt) = inr lt

-- a reader that is applied to something read
pub mapped : {A B : Type 0} {Over : Type 0} {found : Found A} {made : Found B} {a : A} {q : Spot} (f : A → B)
    → ((x : A × Spot) → found ≡ Some x → made ≡ Some (f x.0, x.1)) → Reaches Over found a q → Reaches Over made (f a) q
mapped {a = a} {q = q} f h w = ((f w.0.0, w.0.1), h w.0 w.1, extends_mapped f w.0 (a, q) w.2, λ over. ap (λ x. (f x.0, x.1)) (w.3 over))

-- ---- a dotted name

abbrev DottedAs : Spot → List Name → Spot → Type 0
DottedAs p n q = Dotted p n q

dotted_more : {p q u t : Spot} {n : List Name} {m : Name} → Dotted p n q → after s.Dot q ≡ Some u → name u ≡ Some (m, t) → Dotted p (n ++ m ∷ []) t
dotted_more (g.single e) d f = g.further e d (g.single f)
dotted_more (g.further e d w) d2 f = g.further e d (dotted_more w d2 f)

dot_name_some : (q : Spot) (x : Name × Spot) → dot_name q ≡ Some x → (u : Spot) × (after s.Dot q ≡ Some u) × (name u ≡ Some x)
unfolding dot_name
dot_name_some q x e = then_some (after s.Dot q) name x e

dot_name_is : (q u : Spot) (x : Name × Spot) → after s.Dot q ≡ Some u → name u ≡ Some x → dot_name q ≡ Some x
unfolding dot_name
dot_name_is q u x e f = then_is (after s.Dot q) name u e ∙ f

pub dot_name_stops : (q : Spot) → after s.Dot q ≡ None → dot_name q ≡ None
unfolding dot_name
dot_name_stops q e = then_not (after s.Dot q) name e

dot_name_shrinks : Shrinks dot_name
dot_name_shrinks q x e = let w = dot_name_some q x e in omega (arith, after_shorter s.Dot q w.0 w.1, name_shorter w.0 x w.2)

dotted_found : (p : Spot) → IfFound (λ x. Dotted p x.0 x.1) (dotted p)
unfolding dotted
dotted_found p =
    then_found (λ x. Dotted p x.0 x.1) (name p) _ (λ x e. climb_keeps appended dot_name (DottedAs p)
    (λ a q y d f. let w = dot_name_some q y f in dotted_more d w.1 w.2) (length x.1.tokens) (x.0 ∷ []) x.1 (g.single e))

pub dotted_sound : (p : Spot) (x : List Name × Spot) → dotted p ≡ Some x → Dotted p x.0 x.1
dotted_sound p x e = found_is (λ x. Dotted p x.0 x.1) (dotted p) x (dotted_found p) e

names_climb : {q t : Spot} {n : List Name} → Dotted q n t → (found : List Name) (p : Spot) → after s.Dot p ≡ Some q
    → climb appended dot_name (length p.tokens) found p ≡ climb appended dot_name (length t.tokens) (found ++ n) t
names_climb (g.single {p} {q} {n} e) found u d = climb_more appended dot_name dot_name_shrinks found u (n, q) (dot_name_is u p (n, q) d e)
names_climb (g.further {p} {q} {r} {t} {n} {names} e d w) found u d0 =
    climb_more appended dot_name dot_name_shrinks found u (n, q) (dot_name_is u p (n, q) d0 e)
    ∙ names_climb w (found ++ n ∷ []) q d ∙ ap (λ z. climb appended dot_name (length t.tokens) z t) (append_assoc found (n ∷ []) names)

dotted_climb : {p q : Spot} {n : List Name} → Dotted p n q → dotted p ≡ climb appended dot_name (length q.tokens) n q
unfolding dotted
dotted_climb (g.single {p} {q} {n} e) = then_is (name p) _ (n, q) e
dotted_climb (g.further {p} {q} {r} {t} {n} {names} e d w) = then_is (name p) _ (n, q) e ∙ names_climb w (n ∷ []) q d

pub dotted_reach : {p q : Spot} {n : List Name} → Dotted p n q → Reaches (after s.Dot q ≡ None) (dotted p) n q
dotted_reach {p} {q} {n} d =
    let w = climbed appended dot_name dot_name_shrinks (dotted p) n q (dotted_climb d) in
    (w.0, w.1, w.2, λ over. w.3 (dot_name_stops q over))

-- where no further name follows
pub dotted_whole : {p q : Spot} {n : List Name} → Dotted p n q → dot_name q ≡ None → dotted p ≡ Some (n, q)
dotted_whole {p} {q} {n} d over = dotted_climb d ∙ climb_stops appended dot_name (length q.tokens) n q over

dotted_stopped : (p : Spot) → IfFound (λ x. dot_name x.1 ≡ None) (dotted p)
unfolding dotted
dotted_stopped p = then_found (λ x. dot_name x.1 ≡ None) (name p) _ (λ x e. climb_over appended dot_name dot_name_shrinks (x.0 ∷ []) x.1)

-- no further name follows what is read
pub dotted_over : (p : Spot) (x : List Name × Spot) → dotted p ≡ Some x → dot_name x.1 ≡ None
dotted_over p x e = found_is (λ y. dot_name y.1 ≡ None) (dotted p) x (dotted_stopped p) e

pub dotted_exact : {p q : Spot} {n : List Name} → Dotted p n q → after s.Dot q ≡ None → dotted p ≡ Some (n, q)
dotted_exact d over = reached (dotted_reach d) over

-- where another sign follows
pub dotted_before : (sign : Sign) → (s.Dot ≡ sign → ⊥) → ReadBefore Dotted dotted sign
dotted_before sign ne p q u n d e = dotted_exact d (other sign s.Dot q u (λ x. ne (sym x)) e)

pub dotted_head : {p q : Spot} {n : List Name} → Dotted p n q → (m : Name) × (head p ≡ Some (kind.Name m))
dotted_head (g.single {p} {q} {n} e) = (n, name_head p (n, q) e)
dotted_head (g.further {p} {q} {r} {t} {n} e d w) = (n, name_head p (n, q) e)

pub dotted_shorter : {p q : Spot} {n : List Name} → Dotted p n q → length q.tokens < length p.tokens
dotted_shorter (g.single {p} {q} {n} e) = name_shorter p (n, q) e
dotted_shorter (g.further {p} {q} {r} {t} {n} e d w) = omega (arith, name_shorter p (n, q) e, after_shorter s.Dot q r d, dotted_shorter w)

pub dotted_left : {p q : Spot} {n : List Name} → Dotted p n q → q.left ≡ p.left
dotted_left (g.single {p} {q} {n} e) = name_left p (n, q) e
dotted_left (g.further {p} {q} {r} {t} {n} e d w) = dotted_left w ∙ after_left s.Dot q r d ∙ name_left p (n, q) e

pub dotted_ends : {p q : Spot} {n : List Name} → Dotted p n q → Ends p q
dotted_ends (g.single {p} {q} {n} e) = name_ends p (n, q) e
dotted_ends (g.further {p} {q} {r} {t} {n} e d w) = ends_trans p q t (name_ends p (n, q) e) (ends_trans q r t (after_ends s.Dot q r d) (dotted_ends w))

-- no sign begins a dotted name
no_dotted : (sign : Sign) (p q : Spot) (x : List Name × Spot) → after sign p ≡ Some q → dotted p ≡ Some x → ⊥
no_dotted sign p q x e f =
    let w = dotted_head (dotted_sound p x f) in
    let c = sym e ∙ name_no_sign sign w.0 p w.1 in
    cc

-- ---- a list of dotted names

pub filled_same : {A : Type 0} (x y : List A × Spot) → filled x ≡ Some y → (x ≡ y) × (y.0 ≡ [] → ⊥)
filled_same ([], q) y e = (cc, cc)
filled_same (a ∷ all, q) y e =
    let same = some_same (a ∷ all, q) y e in
    (same, λ f. let c : a ∷ all ≡ [] = ap (λ z. z.0) same ∙ f in cc)

list_some : (closing : Sign) (p : Spot) (x : List (List Name) × Spot) → dotted_list closing p ≡ Some x → (r.listed dotted closing (length p.tokens) [] p ≡ Some x) × (x.0 ≡ [] → ⊥)
unfolding dotted_list
list_some closing p x e =
    let w = then_some (r.listed dotted closing (length p.tokens) [] p) filled x e in
    let v = filled_same w.0 x w.2 in
    (w.1 ∙ ap Some v.0, v.1)

pub dotted_list_sound : (closing : Sign) (p : Spot) (x : List (List Name) × Spot) → dotted_list closing p ≡ Some x → Listed Dotted closing p x.0 x.1
dotted_list_sound closing p x e = listed_sound Dotted dotted closing dotted_sound (length p.tokens) p x (list_some closing p x e).0

pub dotted_list_filled : (closing : Sign) (p q : Spot) → dotted_list closing p ≡ Some ([], q) → ⊥
dotted_list_filled closing p q e = (list_some closing p ([], q) e).1 refl

dotted_takes : (p : Spot) (x : List Name × Spot) → dotted p ≡ Some x → length x.1.tokens < length p.tokens
dotted_takes p x e = dotted_shorter (dotted_sound p x e)

pub dotted_list_exact : {closing : Sign} {p q : Spot} {n : List Name} {all : List (List Name)} → (s.Comma ≡ closing → ⊥) → (s.Dot ≡ closing → ⊥)
    → Listed Dotted closing p (n ∷ all) q → dotted_list closing p ≡ Some (n ∷ all, q)
unfolding dotted_list
dotted_list_exact {closing} {p} {q} {n} {all} comma dot d =
    then_is (r.listed dotted closing (length p.tokens) [] p) filled (n ∷ all, q)
    (listed_exact dotted closing comma (no_dotted closing) dotted_takes (listed_read (dotted_before s.Comma (λ x. cc)) (dotted_before closing dot) d) (length p.tokens) (omega arith) [])

-- ---- entitlements

abbrev AlternativesAs : List (List Name) → Spot → List (List Name) × Spot → Type 0
AlternativesAs found p x = (all : List (List Name)) × (x.0 ≡ found ++ all) × Alternatives p all x.1

alternatives_found : (turns : ℕ) (found : List (List Name)) (p : Spot) → IfFound (AlternativesAs found p) (r.alternatives turns found p)
unfolding r.alternatives
alternatives_found zero found p = tt
alternatives_found (suc turns) found p =
    let P = AlternativesAs found p in
    then_found P (dotted p) _ (λ x e1. either_found P (after s.Bar x.1) _ _
    (λ q e2. found_weaker (AlternativesAs (found ++ x.0 ∷ []) q) P _ (λ y w. (x.0 ∷ w.0, w.1 ∙ append_assoc found (x.0 ∷ []) w.0, g.more_alternatives (dotted_sound p x e1) e2 w.2)) (alternatives_found turns (found ++ x.0 ∷ []) q))
    (λ _. then_found P (after s.CloseParenthesis x.1) _ (λ q e3. (x.0 ∷ [], refl, g.last_alternative (dotted_sound p x e1) e3))))

abbrev EntitledAs : Spot → Entitlements × Spot → Type 0
EntitledAs p x = Entitled p x.0 x.1

any_found : (p : Spot) → IfFound (EntitledAs p) (r.any_of p)
unfolding r.any_of
any_found p =
    let P = EntitledAs p in
    then_found P (dotted p) _ (λ x e1. then_found P (after s.Bar x.1) _ (λ q e2. then_found P (r.alternatives (length q.tokens) (x.0 ∷ []) q) _ (λ y e3.
    let w = found_is (AlternativesAs (x.0 ∷ []) q) _ y (alternatives_found (length q.tokens) (x.0 ∷ []) q) e3 in
    subst (λ all. Entitled p (entitlements.Any all) y.1) (sym w.1) (g.any_of (dotted_sound p x e1) e2 w.2))))

all_found : (p : Spot) (x : List (List Name) × Spot) → (x.0 ≡ [] → ⊥) → Listed Dotted s.CloseParenthesis p x.0 x.1 → Entitled p (entitlements.All x.0) x.1
all_found p ([], q) ne d = absurd (ne refl)
all_found p (n ∷ all, q) ne d = g.all_of d

entitled_found : (p : Spot) → IfFound (EntitledAs p) (entitled p)
unfolding entitled
entitled_found p =
    let P = EntitledAs p in
    either_found P (r.any_of p) _ _ (λ x e. found_is P (r.any_of p) x (any_found p) e)
    (λ _. then_found P (dotted_list s.CloseParenthesis p) _ (λ all e. all_found p all (list_some s.CloseParenthesis p all e).1 (dotted_list_sound s.CloseParenthesis p all e)))

pub entitled_sound : (p : Spot) (x : Entitlements × Spot) → entitled p ≡ Some x → Entitled p x.0 x.1
entitled_sound p x e = found_is (EntitledAs p) (entitled p) x (entitled_found p) e

alternatives_shorter : {p q : Spot} {all : List (List Name)} → Alternatives p all q → length q.tokens < length p.tokens
alternatives_shorter (g.last_alternative {p} {q} {r} d e) = omega (arith, dotted_shorter d, after_shorter s.CloseParenthesis q r e)
alternatives_shorter (g.more_alternatives {p} {q} {r} d e w) = omega (arith, dotted_shorter d, after_shorter s.Bar q r e, alternatives_shorter w)

alternatives_exact : {p q : Spot} {all : List (List Name)} → Alternatives p all q → (turns : ℕ) → length p.tokens ≤ turns → (found : List (List Name)) → r.alternatives turns found p ≡ Some (found ++ all, q)
unfolding r.alternatives
alternatives_exact (g.last_alternative {p} {q} {r} {n} d e) zero le found = let never : ⊥ = omega (arith, dotted_shorter d) in absurd never
alternatives_exact (g.last_alternative {p} {q} {r = u} {n} d e) (suc turns) le found =
    then_is (dotted p) _ (n, q) (dotted_before s.CloseParenthesis (λ x. cc) p q u n d e)
    ∙ either_not (after s.Bar q) _ _ (other s.CloseParenthesis s.Bar q u (λ x. cc) e) ∙ then_is (after s.CloseParenthesis q) _ u e
alternatives_exact (g.more_alternatives {p} {q} {r = u} {t} {n} {all} d e w) zero le found = let never : ⊥ = omega (arith, dotted_shorter d) in absurd never
alternatives_exact (g.more_alternatives {p} {q} {r = u} {t} {n} {all} d e w) (suc turns) le found =
    then_is (dotted p) _ (n, q) (dotted_before s.Bar (λ x. cc) p q u n d e)
    ∙ either_is (after s.Bar q) _ _ u e ∙ alternatives_exact w turns (omega (arith, dotted_shorter d, after_shorter s.Bar q u e)) (found ++ n ∷ [])
    ∙ ap (λ z. Some (z, t)) (append_assoc found (n ∷ []) all)

-- where a comma or the closing sign stands behind the first name, there is no alternative
no_alternative : (sign : Sign) (p q u : Spot) (n : List Name) → (s.Dot ≡ sign → ⊥) → (s.Bar ≡ sign → ⊥) → Dotted p n q → after sign q ≡ Some u → r.any_of p ≡ None
unfolding r.any_of
no_alternative sign p q u n dot bar d e =
    then_is (dotted p) _ (n, q) (dotted_before sign dot p q u n d e) ∙ then_not (after s.Bar q) _ (other sign s.Bar q u (λ x. bar (sym x)) e)

list_no_alternative : {p q : Spot} {n : List Name} {all : List (List Name)} → Listed Dotted s.CloseParenthesis p (n ∷ all) q → r.any_of p ≡ None
list_no_alternative (l.last {p} {q} {r = u} {a = n} d e) = let w = resumed_is s.CloseParenthesis p q u e in no_alternative s.CloseParenthesis p q w.0 n (λ x. cc) (λ x. cc) d w.1
list_no_alternative (l.more {p} {q} {r = u} {a = n} d e w) = let v = resumed_is s.Comma p q u e in no_alternative s.Comma p q v.0 n (λ x. cc) (λ x. cc) d v.1

pub entitled_exact : {p q : Spot} {e : Entitlements} → Entitled p e q → entitled p ≡ Some (e, q)
unfolding entitled r.any_of
entitled_exact (g.all_of {p} {q} {n} {all} d) =
    either_not (r.any_of p) _ _ (list_no_alternative d) ∙ then_is (dotted_list s.CloseParenthesis p) _ (n ∷ all, q) (dotted_list_exact (λ x. cc) (λ x. cc) d)
entitled_exact (g.any_of {p} {q} {r = u} {t} {n} {all} d e w) =
    either_is (r.any_of p) _ _ (entitlements.Any (n ∷ all), t)
    (then_is (dotted p) _ (n, q) (dotted_before s.Bar (λ x. cc) p q u n d e) ∙ then_is (after s.Bar q) _ u e
    ∙ then_is (r.alternatives (length u.tokens) (n ∷ []) u) _ (n ∷ all, t) (alternatives_exact w (length u.tokens) (omega arith) (n ∷ [])))

names_shorter : AllShorter Dotted
names_shorter p q n d = dotted_shorter d

names_end : AllEnd Dotted
names_end p q n d = dotted_ends d

alternatives_left : {p q : Spot} {all : List (List Name)} → Alternatives p all q → q.left ≡ p.left
alternatives_left (g.last_alternative {p} {q} {r} d e) = after_left s.CloseParenthesis q r e ∙ dotted_left d
alternatives_left (g.more_alternatives {p} {q} {r} d e w) = alternatives_left w ∙ after_left s.Bar q r e ∙ dotted_left d

alternatives_ends : {p q : Spot} {all : List (List Name)} → Alternatives p all q → Ends p q
alternatives_ends (g.last_alternative {p} {q} {r} d e) = ends_trans p q r (dotted_ends d) (after_ends s.CloseParenthesis q r e)
alternatives_ends (g.more_alternatives {p} {q} {r} {t} d e w) = ends_trans p q t (dotted_ends d) (ends_trans q r t (after_ends s.Bar q r e) (alternatives_ends w))

pub list_shorter : {closing : Sign} {p q : Spot} {all : List (List Name)} → Listed Dotted closing p all q → length q.tokens < length p.tokens
list_shorter d = listed_shorter names_shorter d

pub list_ends : {closing : Sign} {p q : Spot} {all : List (List Name)} → Listed Dotted closing p all q → Ends p q
list_ends d = listed_ends names_end d

pub entitled_shorter : {p q : Spot} {e : Entitlements} → Entitled p e q → length q.tokens < length p.tokens
entitled_shorter (g.all_of d) = list_shorter d
entitled_shorter (g.any_of {p} {q} {r} d e w) = omega (arith, dotted_shorter d, after_shorter s.Bar q r e, alternatives_shorter w)

pub entitled_left : {p q : Spot} {e : Entitlements} → Entitled p e q → q.left ≡ p.left
entitled_left (g.all_of d) = listed_left d
entitled_left (g.any_of {p} {q} {r} d e w) = alternatives_left w ∙ after_left s.Bar q r e ∙ dotted_left d

pub entitled_ends : {p q : Spot} {e : Entitlements} → Entitled p e q → Ends p q
entitled_ends (g.all_of d) = list_ends d
entitled_ends (g.any_of {p} {q} {r} {t} d e w) = ends_trans p q t (dotted_ends d) (ends_trans q r t (after_ends s.Bar q r e) (alternatives_ends w))

-- ---- what stands behind `auth`

abbrev AuthorizedAs : Spot → Entitlements × Spot → Type 0
AuthorizedAs p x = Authorized p x.0 x.1

authorized_found : (p : Spot) → IfFound (AuthorizedAs p) (r.authorized p)
unfolding r.authorized
authorized_found p =
    let P = AuthorizedAs p in
    then_found P (after s.OpenParenthesis p) _ (λ q e1. then_found P (opened q) _ (λ u e2. then_found P (entitled u) _ (λ x e3.
    g.authorized (then_is (after s.OpenParenthesis p) opened q e1 ∙ e2) (entitled_sound u x e3))))

pub authorized_sound : (p : Spot) (x : Entitlements × Spot) → r.authorized p ≡ Some x → Authorized p x.0 x.1
authorized_sound p x e = found_is (AuthorizedAs p) (r.authorized p) x (authorized_found p) e

pub authorized_exact : {p q : Spot} {e : Entitlements} → Authorized p e q → r.authorized p ≡ Some (e, q)
unfolding r.authorized
authorized_exact (g.authorized {p} {q} {r = u} {e} o d) =
    let w = opening_is s.OpenParenthesis p q o in
    then_is (after s.OpenParenthesis p) _ w.0 w.1 ∙ then_is (opened w.0) _ q w.2 ∙ then_is (entitled q) _ (e, u) (entitled_exact d)

pub authorized_shorter : {p q : Spot} {e : Entitlements} → Authorized p e q → length q.tokens < length p.tokens
authorized_shorter (g.authorized {p} {q} o d) = omega (arith, opening_shorter s.OpenParenthesis p q o, entitled_shorter d)

pub authorized_left : {p q : Spot} {e : Entitlements} → Authorized p e q → q.left ≡ p.left
authorized_left (g.authorized o d) = refl

pub authorized_ends : {p q : Spot} {e : Entitlements} → Authorized p e q → Ends p q
authorized_ends (g.authorized {p} {q} {r} o d) = let w = ends_trans p q r (opening_ends s.OpenParenthesis p q o) (entitled_ends d) in (w.0, w.1)
