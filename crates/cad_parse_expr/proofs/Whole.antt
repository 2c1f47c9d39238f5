-- The readers of whole expressions and types.
use Rattle.std.proofs.Common.{◌≡◌, ℕ, suc, ◌-◌, ◌<◌, ◌≤◌, List, [], ◌++◌, length, take, drop, Some, None, refl, sym, ap, ◌∙◌, subst, ◌⊎◌, inl, inr, arith, append_assoc, length-append}
use Rattle.std.proofs.lemmas.List.{take-append-drop}
use Rattle.std.proofs.Math.Seq.{drop-append_seam}
use Rattle.cad_grammar.specs.declared.token.Token.{Token}
use Rattle.cad_grammar.specs.declared.level.Level.TheVariants as level
use Rattle.cad_grammar.specs.declared.level.TypePosition.TheVariants as position
use Rattle.cad_grammar.specs.Trees.{TypeTree, ExprTree}
use Rattle.cad_grammar.specs.Spots.{Spot, back}
use Rattle.cad_parse_type.specs.Code.Levels.{strength_of, token_strength, start}
use Rattle.cad_grammar.specs.TypeGrammar.{ReadsType}
use Rattle.cad_grammar.specs.ExpressionGrammar.{Reads, Expression}
use Rattle.cad_grammar.specs.ExpressionGrammar as gr
use Rattle.cad_parse_type.specs.Code.Reading.{Found, type_at}
use Rattle.cad_parse_type.proofs.Heads.{some_same, Ends}
use Rattle.cad_parse_type.proofs.Climbs.{then_is, then_found, found_is}
use Rattle.cad_parse_type.proofs.Over.{over_weak}
use Rattle.cad_parse_type.proofs.TypeLaws as t
use Rattle.cad_parse_type.proofs.TypeLaws.{Extends}
use Rattle.cad_parse_type.proofs.Whole.{type_laws as types}
use Rattle.cad_parse_expr.specs.Cursor.{before, SpellsExpr, SpellsType}
use Rattle.cad_parse_expr.specs.Code.Reading.{strength}
use Rattle.cad_parse_expr.specs.Code.Reading as r
use Rattle.cad_parse_expr.proofs.Sound.{ReadAs, read_sound}
use Rattle.cad_parse_expr.proofs.Strength.{nothing_follows, start_twelve}
use Rattle.cad_parse_expr.proofs.Facts.{reads_shorter, reads_start, reads_ends}
use Rattle.cad_parse_expr.proofs.Exact.{Reaches, exactly, reads_reach}
use Rattle.cad_parse_expr.proofs.ExpressionLaws.{ExpressionLaws}

-- ---- expressions whose signs are still open

pub expression_at_sound : (p : Spot) (x : ExprTree × Spot) → r.expression_at p ≡ Some x → Reads level.Conditional p x.0 x.1
unfolding r.expression_at
expression_at_sound p x e = found_is (ReadAs level.Conditional p) _ x (read_sound (suc p.left) level.Conditional p) e

pub expression_at_reach : {p q : Spot} {a : ExprTree} → Reads level.Conditional p a q → Reaches 1 (r.expression_at p) a q
unfolding r.expression_at r.read
expression_at_reach {p} d = reads_reach d p.left (omega arith)

-- ---- expressions that stand by themselves

abbrev ExpressionAs : Spot → ExprTree × Spot → Type 0
ExpressionAs p x = Expression p x.0 x.1

expression_sound : (p : Spot) (x : ExprTree × Spot) → r.expression p ≡ Some x → Expression p x.0 x.1
unfolding r.expression
expression_sound p x e = found_is (ExpressionAs p) (r.expression p) x (then_found (ExpressionAs p) (r.expression_at p) _ (λ a f. gr.whole (expression_at_sound p a f))) e

closed : (p : Spot) (x : ExprTree × Spot) → r.expression_at p ≡ Some x → r.expression p ≡ Some (x.0, back p x.1)
unfolding r.expression
closed p x e = then_is (r.expression_at p) _ x e

extends_back : (p : Spot) (x y : ExprTree × Spot) → Extends x y → Extends {A = ExprTree} (x.0, back p x.1) (y.0, back p y.1)
extends_back p x y (inl e) = inl (ap (λ z. (z.0, back p z.1)) e)
extends_back p x y (inr lt) = inr lt

expression_reach : {p q : Spot} {e : ExprTree} → Expression p e q → t.Reaches (token_strength q ≡ 0) (r.expression p) e q
expression_reach (gr.whole {p} {q} {a} d) =
    let w = expression_at_reach d in
    ((w.0.0, back p w.0.1), closed p w.0 w.1, extends_back p w.0 (a, q) w.2, λ none. ap (λ z. (z.0, back p z.1)) (w.3 (omega (arith, nothing_follows q none))))

expression_exact : {p q : Spot} {e : ExprTree} → Expression p e q → token_strength q ≡ 0 → r.expression p ≡ Some (e, q)
expression_exact d none = let w = expression_reach d in w.1 ∙ ap Some (w.3 none)

expression_shorter : {p q : Spot} {e : ExprTree} → Expression p e q → length q.tokens < length p.tokens
expression_shorter (gr.whole d) = reads_shorter d

expression_left : {p q : Spot} {e : ExprTree} → Expression p e q → q.left ≡ p.left
expression_left (gr.whole d) = refl

expression_starts : {p q : Spot} {e : ExprTree} → Expression p e q → 12 ≤ start p
expression_starts (gr.whole {p} d) = start_twelve p (omega (arith, reads_start d))

expression_ends : {p q : Spot} {e : ExprTree} → Expression p e q → Ends p q
expression_ends (gr.whole d) = let w = reads_ends d in (w.0, w.1)

pub expression_laws : ExpressionLaws
expression_laws = record {
  expression_sound = expression_sound;
  expression_exact = λ d. expression_exact d;
  expression_reach = λ d. expression_reach d;
  expression_shorter = λ d. expression_shorter d;
  expression_left = λ d. expression_left d;
  expression_starts = λ d. expression_starts d;
  expression_ends = λ d. expression_ends d;
}

-- ---- what tokens spell

-- of what is read, every other reading ends earlier
longest_of : {A : Type 0} (found : Found A) (x : A × Spot) (a : A) (q : Spot) (rest : List Token) → found ≡ Some x → (y : A × Spot) → found ≡ Some y → Extends y (a, q) → q.tokens ≡ rest
    → ((a ≡ x.0) × (rest ≡ x.1.tokens)) ⊎ (length x.1.tokens < length rest)
longest_of {A} found x a q rest e y f w h =
    let same : y ≡ x = some_same y x (sym f ∙ e) in
    subst (λ z. ((a ≡ z.0) × (rest ≡ z.1.tokens)) ⊎ (length z.1.tokens < length rest)) same (by_cases y w)
  where
    by_cases : (y : A × Spot) → Extends y (a, q) → ((a ≡ y.0) × (rest ≡ y.1.tokens)) ⊎ (length y.1.tokens < length rest)
    by_cases y (inl g) = inl (sym (ap (λ z. z.0) g), sym h ∙ sym (ap (λ z. z.1.tokens) g))
    by_cases y (inr lt) = inr (omega (arith, ap length h))

pub expr_longest : (n : ℕ) (tokens : List Token) (x : ExprTree × Spot) → r.expression_at (before n tokens) ≡ Some x
    → (a : ExprTree) (rest : List Token) → SpellsExpr n tokens a rest → ((a ≡ x.0) × (rest ≡ x.1.tokens)) ⊎ (length x.1.tokens < length rest)
expr_longest n tokens x e a rest w = let v = expression_at_reach w.1 in longest_of (r.expression_at (before n tokens)) x a w.0 rest e v.0 v.1 v.2 w.2

pub expr_none : (n : ℕ) (tokens : List Token) → r.expression_at (before n tokens) ≡ None → (a : ExprTree) (rest : List Token) → SpellsExpr n tokens a rest → ⊥
expr_none n tokens e a rest w = let v = expression_at_reach w.1 in let c = sym e ∙ v.1 in cc

pub type_longest : (n : ℕ) (tokens : List Token) (x : TypeTree × Spot) → type_at position.Anywhere (before n tokens) ≡ Some x
    → (a : TypeTree) (rest : List Token) → SpellsType n tokens a rest → ((a ≡ x.0) × (rest ≡ x.1.tokens)) ⊎ (length x.1.tokens < length rest)
type_longest n tokens x e a rest w = let v = types.type_reach w.1 in longest_of (type_at position.Anywhere (before n tokens)) x a w.0 rest e v.0 v.1 v.2 w.2

pub type_none : (n : ℕ) (tokens : List Token) → type_at position.Anywhere (before n tokens) ≡ None → (a : TypeTree) (rest : List Token) → SpellsType n tokens a rest → ⊥
type_none n tokens e a rest w = let v = types.type_reach w.1 in let c = sym e ∙ v.1 in cc

pub expr_sound : (n : ℕ) (tokens : List Token) (x : ExprTree × Spot) → r.expression_at (before n tokens) ≡ Some x → Reads level.Conditional (before n tokens) x.0 x.1
expr_sound n tokens x e = expression_at_sound (before n tokens) x e

pub type_sound : (n : ℕ) (tokens : List Token) (x : TypeTree × Spot) → type_at position.Anywhere (before n tokens) ≡ Some x → ReadsType position.Anywhere (before n tokens) x.0 x.1
type_sound n tokens x e = types.type_sound position.Anywhere (before n tokens) x e

-- all tokens spell one at most
pub one_expr : (n : ℕ) (tokens : List Token) (a b : ExprTree) → SpellsExpr n tokens a [] → SpellsExpr n tokens b [] → a ≡ b
one_expr n tokens a b v w =
    let e = exactly 1 (r.expression_at (before n tokens)) a v.0 (expression_at_reach v.1) (omega (arith, nothing_follows v.0 (ap strength_of v.2))) in
    let f = exactly 1 (r.expression_at (before n tokens)) b w.0 (expression_at_reach w.1) (omega (arith, nothing_follows w.0 (ap strength_of w.2))) in
    ap (λ x. x.0) (some_same (a, v.0) (b, w.0) (sym e ∙ f))

pub one_type : (n : ℕ) (tokens : List Token) (a b : TypeTree) → SpellsType n tokens a [] → SpellsType n tokens b [] → a ≡ b
one_type n tokens a b v w =
    let e = types.type_exact v.1 (over_weak position.Anywhere v.0 (ap strength_of v.2)) in
    let f = types.type_exact w.1 (over_weak position.Anywhere w.0 (ap strength_of w.2)) in
    ap (λ x. x.0) (some_same (a, v.0) (b, w.0) (sym e ∙ f))

-- ---- the place of what is left

end_place : (tokens front rest : List Token) → tokens ≡ front ++ rest → (drop (length tokens - length rest) tokens ≡ rest) × (length rest ≤ length tokens)
end_place tokens front rest e =
    let k : length front ≡ length tokens - length rest = omega (arith, ap length e, length-append front rest) in
    let at_front : drop (length front) tokens ≡ rest = ap (drop (length front)) e ∙ drop-append_seam front rest in
    (subst (λ n. drop n tokens ≡ rest) k at_front, omega (arith, ap length e, length-append front rest))

-- what is left behind a place of the tokens is an end of them
pub rest_place : (tokens : List Token) (at n : ℕ) (q : Spot) → Ends (before n (drop at tokens)) q → (drop (length tokens - length q.tokens) tokens ≡ q.tokens) × (length q.tokens ≤ length tokens)
rest_place tokens at n q d =
    end_place tokens (take at tokens ++ d.0) q.tokens
    (sym (take-append-drop at tokens) ∙ ap (λ z. take at tokens ++ z) d.1 ∙ sym (append_assoc (take at tokens) d.0 q.tokens))

pub expr_place : (tokens : List Token) (at n : ℕ) (x : ExprTree × Spot) → r.expression_at (before n (drop at tokens)) ≡ Some x → (drop (length tokens - length x.1.tokens) tokens ≡ x.1.tokens) × (length x.1.tokens ≤ length tokens)
expr_place tokens at n x e = rest_place tokens at n x.1 (reads_ends (expression_at_sound (before n (drop at tokens)) x e))

pub type_place : (tokens : List Token) (at n : ℕ) (x : TypeTree × Spot) → type_at position.Anywhere (before n (drop at tokens)) ≡ Some x → (drop (length tokens - length x.1.tokens) tokens ≡ x.1.tokens) × (length x.1.tokens ≤ length tokens)
type_place tokens at n x e = rest_place tokens at n x.1 (types.type_ends (types.type_sound position.Anywhere (before n (drop at tokens)) x e))
