-- What is spelled is read: the longest that the tokens begin with.
use Rattle.std.proofs.Common.{◌≡◌, ℕ, zero, suc, ◌<◌, ◌≤◌, Bool, List, [], length, Some, None, refl, sym, ap, ◌∙◌, subst, inl, inr, arith}
use Rattle.cad_grammar.specs.declared.token.Sign.{Sign}
use Rattle.cad_grammar.specs.declared.token.Sign.TheVariants as s
use Rattle.cad_syntax.specs.declared.keyword.Keyword.TheVariants as k
use Rattle.cad_grammar.specs.declared.level.Level.{Level}
use Rattle.cad_grammar.specs.declared.level.Level.TheVariants as level
use Rattle.cad_grammar.specs.declared.expression.BinaryOperator.TheVariants as op
use Rattle.cad_grammar.specs.Trees.{ExprTree, ArgumentTree, EntryTree}
use Rattle.cad_grammar.specs.Trees as tree
use Rattle.cad_grammar.specs.Spots.{Spot, after, resumed}
use Rattle.cad_grammar.specs.Lists.{Listed}
use Rattle.cad_grammar.specs.Lists as l
use Rattle.cad_grammar.specs.Levels.{tighter, sign_start, unary_word}
use Rattle.cad_parse_type.specs.Code.Levels.{level_number, sign_strength, start}
use Rattle.cad_grammar.specs.ExpressionGrammar.{Tail, extend, Part, an_element, an_argument, an_entry, TreeOf, label, Reads, Tails, ReadsPart, Parts}
use Rattle.cad_grammar.specs.ExpressionGrammar as gr
use Rattle.cad_parse_type.specs.Code.Reading.{Found, Reader, climb, listed}
use Rattle.cad_parse_type.proofs.Heads.{none_of, some_same, after_shorter, after_left, joined_left, keyword_left, read_left, opened_is, opening_left, opening_head, resumed_is, resumed_left, name_head, head_start, not_after}
use Rattle.cad_parse_type.proofs.Climbs.{then_is, either_is, either_not, cases_of, found_is, Shrinks, climb_more, climb_stops, climb_gives}
use Rattle.cad_parse_type.proofs.ListLaws.{IsRead, listed_exact}
use Rattle.cad_parse_type.proofs.TypeLaws.{Extends}
use Rattle.cad_parse_type.proofs.Whole.{type_laws as types}
use Rattle.cad_parse_expr.specs.Code.Reading.{strength}
use Rattle.cad_parse_expr.specs.Code.Reading as r
use Rattle.cad_parse_expr.proofs.Sound.{TailAs, FallbackAs, BranchesAs, part_reader, part_sound, at_sound, read_sound, tail_sound, fallback_sound, branches_sound}
use Rattle.cad_parse_expr.proofs.Strength.{IsChain, after_is, as_is, after_start, unary_start}
use Rattle.cad_parse_expr.proofs.Facts.{label_is, label_left, typed_left, reads_shorter, tails_shorter, part_shorter, reads_falls, looser, chain_looser, tails_chain, reads_start, tails_strength}
use Rattle.cad_parse_expr.proofs.Steps as steps

-- What is read where tokens are known to spell something: the same, or what takes more of them where a token follows that
-- binds as tightly as the level.
abbrev pub Reaches : {A : Type 0} → ℕ → Found A → A → Spot → Type 0
Reaches {A} bound found a q = (x : A × Spot) × (found ≡ Some x) × Extends x (a, q) × (strength q < bound → x ≡ (a, q))

extends_trans : {A : Type 0} (x y z : A × Spot) → Extends x y → Extends y z → Extends x z
extends_trans x y z (inl e) (inl f) = inl (e ∙ f)
extends_trans x y z (inl e) (inr lt) = inr (omega (arith, ap (λ w. length w.1.tokens) e))
extends_trans x y z (inr lt) (inl f) = inr (omega (arith, ap (λ w. length w.1.tokens) f))
extends_trans x y z (inr lt) (inr lu) = inr (omega arith)

extends_mapped : {A B : Type 0} (f : A → B) (x y : A × Spot) → Extends x y → Extends {A = B} (f x.0, x.1) (f y.0, y.1)
extends_mapped f x y (inl e) = inl (ap (λ z. (f z.0, z.1)) e)
extends_mapped f x y (inr lt) = inr lt

pub exactly : {A : Type 0} (bound : ℕ) (found : Found A) (a : A) (q : Spot) → Reaches bound found a q → strength q < bound → found ≡ Some (a, q)
exactly bound found a q w lt = w.1 ∙ ap Some (w.3 lt)

-- what is read exactly
exact : {A : Type 0} (bound : ℕ) (found : Found A) (a : A) (q : Spot) → found ≡ Some (a, q) → Reaches bound found a q
exact bound found a q e = ((a, q), e, inl refl, λ _. refl)

-- a reader that is applied to something read
mapped : {A B : Type 0} (f : A → B) (bound : ℕ) (found : Found A) (made : Found B) (a : A) (q : Spot)
    → ((x : A × Spot) → found ≡ Some x → made ≡ Some (f x.0, x.1)) → Reaches bound found a q → Reaches bound made (f a) q
mapped f bound found made a q h w = ((f w.0.0, w.0.1), h w.0 w.1, extends_mapped f w.0 (a, q) w.2, λ lt. ap (λ x. (f x.0, x.1)) (w.3 lt))

-- one call deeper
inner : (depth : ℕ) (l : Level) (p : Spot) (a : ExprTree) (q : Spot) → p.left < depth
    → ((d : ℕ) → p.left ≤ d → Reaches (level_number l) (r.at (r.read d) l p) a q) → Reaches (level_number l) (r.read depth l p) a q
unfolding r.read
inner zero l p a q lt h = let never : ⊥ = omega arith in absurd never
inner (suc d) l p a q lt h = h d (omega arith)

shrinks : (depth : ℕ) (l : Level) → Shrinks (r.tail (r.read depth) l (r.at (r.read depth) (tighter l)))
shrinks depth l p x e =
    tails_shorter (found_is (TailAs l p) _ x (tail_sound (r.read depth) (read_sound depth) l (r.at (r.read depth) (tighter l)) (at_sound (r.read depth) (read_sound depth) (tighter l)) p) e)

after_weak : (sign : Sign) (p q : Spot) (bound : ℕ) → (sign ≡ s.Less → ⊥) → ((b : Bool) → sign_strength b sign < bound) → after sign p ≡ Some q → strength p < bound
after_weak sign p q bound ne h e = let w = after_is sign p q ne e in omega (arith, h w.0, w.1)

resumed_weak : (sign : Sign) (p q u : Spot) → (sign ≡ s.Less → ⊥) → ((b : Bool) → sign_strength b sign < 1) → resumed sign p q ≡ Some u → strength q < 1
resumed_weak sign p q u ne h e = let w = resumed_is sign p q u e in after_weak sign q w.0 1 ne h w.1

-- a chain that went on as far as here
climbed : (tail : Reader Tail) → Shrinks tail → (bound : ℕ) (found : Found ExprTree) (x : ExprTree × Spot) → ((p : Spot) → strength p < bound → tail p ≡ None)
    → found ≡ climb extend tail (length x.1.tokens) x.0 x.1
    → (y : ExprTree × Spot) × (found ≡ Some y) × Extends y x × (strength x.1 < bound → y ≡ x)
climbed tail h bound found x stops e =
    let w = climb_gives extend tail h (length x.1.tokens) x.0 x.1 in
    (w.0, e ∙ w.1, w.2, λ lt. some_same w.0 x (sym w.1 ∙ climb_stops extend tail (length x.1.tokens) x.0 x.1 (stops x.1 lt)))

-- a chain begins with what is read at the tighter level
at_climb : (depth : ℕ) (l : Level) (p : Spot) (x : ExprTree × Spot) → IsChain l → r.at (r.read depth) (tighter l) p ≡ Some x
    → r.at (r.read depth) l p ≡ climb extend (r.tail (r.read depth) l (r.at (r.read depth) (tighter l))) (length x.1.tokens) x.0 x.1
at_climb depth l p x h d =
    steps.at_chain (r.read depth) l p h ∙ steps.chain_is (r.at (r.read depth) (tighter l)) (r.tail (r.read depth) l (r.at (r.read depth) (tighter l))) p x d

-- a chain that went on as far as here, at its level
chain_on : (depth : ℕ) (l : Level) (p : Spot) (x : ExprTree × Spot) → IsChain l
    → r.at (r.read depth) l p ≡ climb extend (r.tail (r.read depth) l (r.at (r.read depth) (tighter l))) (length x.1.tokens) x.0 x.1
    → (y : ExprTree × Spot) × (r.at (r.read depth) l p ≡ Some y) × Extends y x × (strength x.1 < level_number l → y ≡ x)
chain_on depth l p x h e =
    climbed (r.tail (r.read depth) l (r.at (r.read depth) (tighter l))) (shrinks depth l) (level_number l) (r.at (r.read depth) l p) x
    (λ q lt. steps.tail_stops (r.read depth) l (r.at (r.read depth) (tighter l)) q h lt) e

-- what is read at a tighter level goes on at this one
loosened : (depth : ℕ) (l : Level) (p : Spot) (x : ExprTree × Spot) → level_number (tighter l) ≤ start p → r.at (r.read depth) (tighter l) p ≡ Some x
    → (y : ExprTree × Spot) × (r.at (r.read depth) l p ≡ Some y) × Extends y x × (strength x.1 < level_number l → y ≡ x)
unfolding r.at r.conditional r.coalesce r.prefix
loosened depth level.Conditional p x st d =
    cases_of _ (r.branches (r.read depth) x.1)
    (λ q. (x, then_is (r.disjunction (r.read depth) p) _ x d ∙ either_not (r.branches (r.read depth) x.1) _ _ q, inl refl, λ lt. refl))
    (λ b q.
    let w = found_is (BranchesAs x.1) _ b (branches_sound (r.read depth) (read_sound depth) x.1) q in (
      (tree.conditional x.0 b.0.0 b.0.1, b.1),
      then_is (r.disjunction (r.read depth) p) _ x d ∙ either_is (r.branches (r.read depth) x.1) _ _ b q,
      inr (omega (arith, after_shorter s.Question x.1 w.0 w.4, ap length (opened_is w.0 w.1 w.5).1, reads_shorter w.6, after_shorter s.Colon w.2 w.3 w.7, reads_shorter w.8)),
      λ lt. let never : ⊥ = omega (arith, (after_is s.Question x.1 w.0 (λ z. cc) w.4).1) in absurd never,
    ))
loosened depth level.Coalesce p x st d =
    cases_of _ (r.fallback (r.read depth) x.1)
    (λ q. (x, then_is (r.bit_or (r.read depth) p) _ x d ∙ either_not (r.fallback (r.read depth) x.1) _ _ q, inl refl, λ lt. refl))
    (λ b q.
    let w = found_is (FallbackAs x.1) _ b (fallback_sound (r.read depth) (read_sound depth) x.1) q in (
      (tree.binary op.Coalesce x.0 b.0, b.1),
      then_is (r.bit_or (r.read depth) p) _ x d ∙ either_is (r.fallback (r.read depth) x.1) _ _ b q,
      inr (omega (arith, after_shorter s.Coalesce x.1 w.0 w.2, ap length (opened_is w.0 w.1 w.3).1, reads_shorter w.4)),
      λ lt. let never : ⊥ = omega (arith, (after_is s.Coalesce x.1 w.0 (λ z. cc) w.2).1) in absurd never,
    ))
loosened depth level.Prefix p x st d = (
  x,
  either_not (unary_word p) _ _ (none_of (unary_word p) (λ y e. omega (arith, unary_start p y e)))
      ∙ either_not (after s.Ampersand p) _ _ (none_of (after s.Ampersand p) (λ q e. omega (arith, after_start s.Ampersand p q e))) ∙ d,
  inl refl,
  λ lt. refl,
)
loosened depth level.Primary p x st d = (x, d, inl refl, λ lt. refl)
loosened depth level.Or p x st d = chain_on depth level.Or p x tt (at_climb depth level.Or p x tt d)
loosened depth level.And p x st d = chain_on depth level.And p x tt (at_climb depth level.And p x tt d)
loosened depth level.Comparison p x st d = chain_on depth level.Comparison p x tt (at_climb depth level.Comparison p x tt d)
loosened depth level.BitOr p x st d = chain_on depth level.BitOr p x tt (at_climb depth level.BitOr p x tt d)
loosened depth level.BitXor p x st d = chain_on depth level.BitXor p x tt (at_climb depth level.BitXor p x tt d)
loosened depth level.BitAnd p x st d = chain_on depth level.BitAnd p x tt (at_climb depth level.BitAnd p x tt d)
loosened depth level.Sum p x st d = chain_on depth level.Sum p x tt (at_climb depth level.Sum p x tt d)
loosened depth level.Product p x st d = chain_on depth level.Product p x tt (at_climb depth level.Product p x tt d)
loosened depth level.Cast p x st d = chain_on depth level.Cast p x tt (at_climb depth level.Cast p x tt d)
loosened depth level.Postfix p x st d = chain_on depth level.Postfix p x tt (at_climb depth level.Postfix p x tt d)

-- ---- lists

-- the signs that close a list
record Closes (closing : Sign) : Type 0 where
  weak : (b : Bool) → sign_strength b closing < 1
  begins_nothing : sign_start closing ≡ 0
  is_no_comma : s.Comma ≡ closing → ⊥
  is_no_less : closing ≡ s.Less → ⊥

round : Closes s.CloseParenthesis
round = record { weak = λ b. omega arith; begins_nothing = refl; is_no_comma = λ e. cc; is_no_less = λ e. cc }

square : Closes s.CloseBracket
square = record { weak = λ b. omega arith; begins_nothing = refl; is_no_comma = λ e. cc; is_no_less = λ e. cc }

curly : Closes s.CloseBrace
curly = record { weak = λ b. omega arith; begins_nothing = refl; is_no_comma = λ e. cc; is_no_less = λ e. cc }

part_start : {part : Part} {p q : Spot} {a : TreeOf part} → ReadsPart part p a q → 0 < start p
part_start (gr.element d) = omega (arith, reads_start d)
part_start (gr.bare e d) = omega (arith, reads_start d)
part_start (gr.labelled {p} {q} {n = n} e d) = let w = label_is p (n, q) e in omega (arith, head_start p _ (name_head p w.0 w.1))
part_start (gr.entry d c d2) = omega (arith, reads_start d)

list_read : (depth : ℕ) (part : Part) (closing : Sign) → Closes closing → (p q : Spot) (all : List (TreeOf part)) → Listed (IsRead (part_reader (r.read depth) part)) closing p all q
    → listed (part_reader (r.read depth) part) closing (length p.tokens) [] p ≡ Some (all, q)
list_read depth part closing h p q all d =
    listed_exact (part_reader (r.read depth) part) closing h.is_no_comma
    (λ u v x e f. let never : ⊥ = omega (arith, part_start (part_sound (r.read depth) (read_sound depth) part u x f), after_start closing u v e, h.begins_nothing) in absurd never)
    (λ u x f. part_shorter (part_sound (r.read depth) (read_sound depth) part u x f)) d (length p.tokens) (omega arith) []

arguments_read : (depth : ℕ) (p q : Spot) (all : List ArgumentTree) → Listed (IsRead (part_reader (r.read depth) an_argument)) s.CloseParenthesis p all q → r.arguments (r.read depth) p ≡ Some (all, q)
unfolding r.arguments
arguments_read depth p q all d = list_read depth an_argument s.CloseParenthesis round p q all d

elements_read : (depth : ℕ) (p q : Spot) (all : List ExprTree) → Listed (IsRead (part_reader (r.read depth) an_element)) s.CloseBracket p all q → r.elements (r.read depth) p ≡ Some (all, q)
unfolding r.elements
elements_read depth p q all d = list_read depth an_element s.CloseBracket square p q all d

entries_read : (depth : ℕ) (p q : Spot) (all : List EntryTree) → Listed (IsRead (part_reader (r.read depth) an_entry)) s.CloseBrace p all q → r.entries (r.read depth) p ≡ Some (all, q)
unfolding r.entries
entries_read depth p q all d = list_read depth an_entry s.CloseBrace curly p q all d

mutual
  unfolding r.argument r.entry

  pub reads_reach : {l : Level} {p q : Spot} {a : ExprTree} → Reads l p a q → (depth : ℕ) → p.left ≤ depth → Reaches (level_number l) (r.at (r.read depth) l p) a q
  reads_reach (gr.conditional {p} {q} {r = v} {u} {v = v2} {w} {x} {a} {b} {c} d e o d2 e2 d3) depth le =
      let below : u.left < depth = omega (arith, opened_is v u o, after_left s.Question q v e, reads_falls d) in
      let below2 : w.left < depth = omega (arith, after_left s.Colon v2 w e2, reads_falls d2) in
      let f = exactly _ _ _ _ (reads_reach d depth le) (after_weak s.Question q v 2 (λ y. cc) (λ y. omega arith) e) in
      let g = exactly _ _ _ _ (inner depth level.Conditional u b v2 below (λ i lk. reads_reach d2 i lk)) (after_weak s.Colon v2 w 1 (λ y. cc) (λ y. omega arith) e2) in
      let h = inner depth level.Conditional w c x below2 (λ i lk. reads_reach d3 i lk) in
      mapped (tree.conditional a b) 1 _ _ c x (λ y i. steps.conditional_is (r.read depth) p v u w (a, q) (b, v2) y f e o g e2 i) h
  reads_reach (gr.coalesce {p} {q} {r = v} {u} {v = v2} {a} {b} d e o d2) depth le =
      let below : u.left < depth = omega (arith, (opened_is v u o).0, after_left s.Coalesce q v e, reads_falls d) in
      let f = exactly _ _ _ _ (reads_reach d depth le) (after_weak s.Coalesce q v 6 (λ y. cc) (λ y. omega arith) e) in
      let w = inner depth level.Coalesce u b v2 below (λ i lk. reads_reach d2 i lk) in
      mapped (tree.binary op.Coalesce a) 5 _ _ b v2 (λ y i. steps.coalesce_is (r.read depth) p v u (a, q) y f e o i) w
  reads_reach (gr.prefixed {p} {q} {r = v} {u} {o} {a} e o2 d) depth le =
      let below : v.left < depth = omega (arith, (opened_is q v o2).0, read_left _ p (o, q) e) in
      let w = inner depth level.Prefix v a u below (λ i lk. reads_reach d i lk) in
      mapped (tree.unary o) 12 _ _ a u (λ y i. steps.prefixed_is (r.read depth) p v (o, q) y e o2 i) w
  reads_reach (gr.borrowed {p} {q} {r = v} {u} {v = v2} {w} {x} {a} {t} e o d e2 o2 t2 n n2) depth le =
      let below : v.left < depth = omega (arith, (opened_is q v o).0, after_left s.Ampersand p q e) in
      let f = exactly _ _ _ _ (inner depth level.Prefix v a u below (λ i lk. reads_reach d i lk)) (omega (arith, as_is u v2 e2)) in
      exact _ _ _ _ (steps.borrowed_is (r.read depth) p q v v2 w (a, u) (t, x) e o f e2 o2 (types.type_exact t2 (record { no_question = n; no_questions = n2 })) n n2)
  reads_reach (gr.literal_token {p} {q} {e = a} e) depth le = exact _ _ _ _ (steps.literal_is (r.read depth) p (a, q) e)
  reads_reach (gr.name_token {p} {q} {n} e) depth le = exact _ _ _ _ (steps.name_is (r.read depth) p (n, q) e)
  reads_reach (gr.path_tokens {p} {q} {r = v} {u} {v = v2} {d} {n} e e2 e3 e4) depth le = exact _ _ _ _ (steps.path_is (r.read depth) p q u (d, v) (n, v2) e e2 e3 e4)
  reads_reach (gr.created {p} {q} {r = v} {u} {v = v2} {n} {all} e d o w) depth le =
      let below : u.left < depth = omega (arith, opening_left s.OpenParenthesis v u o, types.dotted_left d, keyword_left k.Create p q e) in
      exact _ _ _ _ (steps.created_is (r.read depth) p q u v2 (n, v) all e
      (types.dotted_exact d (not_after s.OpenParenthesis s.Dot v (λ y. cc) (opening_head s.OpenParenthesis v u o))) o (arguments_read depth u v2 all (parts_read w round depth below)))
  reads_reach (gr.grouped {p} {q} {r = v} {u} {a} o d c) depth le =
      let below : q.left < depth = omega (arith, opening_left s.OpenParenthesis p q o) in
      let f = exactly _ _ _ _ (inner depth level.Conditional q a v below (λ i lk. reads_reach d i lk)) (resumed_weak s.CloseParenthesis p v u (λ y. cc) (λ y. omega arith) c) in
      exact _ _ _ _ (steps.grouped_is (r.read depth) p q u (a, v) o f c)
  reads_reach (gr.listed {p} {q} {r = v} {all} o w) depth le =
      let below : q.left < depth = omega (arith, opening_left s.OpenBracket p q o) in
      exact _ _ _ _ (steps.listed_is (r.read depth) p q v all o (elements_read depth q v all (parts_read w square depth below)))
  reads_reach (gr.paired {p} {q} {r = v} {all} o w) depth le =
      let below : q.left < depth = omega (arith, opening_left s.OpenBrace p q o) in
      exact _ _ _ _ (steps.paired_is (r.read depth) p q v all o (entries_read depth q v all (parts_read w curly depth below)))
  reads_reach (gr.longer {l = lev} {p} {q} {r = v} {a} {tail} d t) depth le =
      let h = tails_chain t in
      let weak : strength q < level_number (tighter lev) = omega (arith, tails_strength t, chain_looser lev h) in
      let w = tails_reach t depth (omega (arith, reads_falls d)) in
      let e = reads_climb d h depth le weak ∙ climb_more extend _ (shrinks depth lev) a q w.0 w.1 in
      let y = chain_on depth lev p (extend a w.0.0, w.0.1) h e in (
        y.0,
        y.1,
        extends_trans _ _ _ y.2 (extends_mapped (extend a) w.0 (tail, v) w.2),
        λ lt.
            let same : w.0 ≡ (tail, v) = w.3 (omega (arith, chain_looser lev h)) in
            let behind : strength w.0.1 < level_number lev = subst (λ x. strength x.1 < level_number lev) (sym same) lt in
            y.3 behind ∙ ap (λ x. (extend a x.0, x.1)) same,
      )
  reads_reach (gr.alone {l = lev} {p} {q} {a} d) depth le =
      let w = reads_reach d depth le in
      let y = loosened depth lev p w.0 (reads_start d) w.1 in (
        y.0,
        y.1,
        extends_trans _ _ _ y.2 w.2,
        λ lt.
            let same : w.0 ≡ (a, q) = w.3 (omega (arith, looser lev)) in
            let behind : strength w.0.1 < level_number lev = subst (λ x. strength x.1 < level_number lev) (sym same) lt in
            y.3 behind ∙ same,
      )

  -- the same of a chain that goes on
  reads_climb : {l : Level} {p q : Spot} {a : ExprTree} → Reads l p a q → IsChain l → (depth : ℕ) → p.left ≤ depth → strength q < level_number (tighter l)
      → r.at (r.read depth) l p ≡ climb extend (r.tail (r.read depth) l (r.at (r.read depth) (tighter l))) (length q.tokens) a q
  reads_climb (gr.conditional d e o d2 e2 d3) h depth le lt = absurd h
  reads_climb (gr.coalesce d e o d2) h depth le lt = absurd h
  reads_climb (gr.prefixed e o2 d) h depth le lt = absurd h
  reads_climb (gr.borrowed e o d e2 o2 t2 n n2) h depth le lt = absurd h
  reads_climb (gr.literal_token e) h depth le lt = absurd h
  reads_climb (gr.name_token e) h depth le lt = absurd h
  reads_climb (gr.path_tokens e e2 e3 e4) h depth le lt = absurd h
  reads_climb (gr.created e d o w) h depth le lt = absurd h
  reads_climb (gr.grouped o d c) h depth le lt = absurd h
  reads_climb (gr.listed o w) h depth le lt = absurd h
  reads_climb (gr.paired o w) h depth le lt = absurd h
  reads_climb (gr.longer {l = lev} {p} {q} {r = v} {a} {tail} d t) h depth le lt =
      let weak : strength q < level_number (tighter lev) = omega (arith, tails_strength t, chain_looser lev h) in
      let w = tails_reach t depth (omega (arith, reads_falls d)) in
      reads_climb d h depth le weak ∙ climb_more extend _ (shrinks depth lev) a q (tail, v) (exactly _ _ _ _ w lt)
  reads_climb (gr.alone {l = lev} {p} {q} {a} d) h depth le lt = at_climb depth lev p (a, q) h (exactly _ _ _ _ (reads_reach d depth le) lt)

  tails_reach : {l : Level} {p q : Spot} {t : Tail} → Tails l p t q → (depth : ℕ) → p.left ≤ depth
      → Reaches (level_number (tighter l)) (r.tail (r.read depth) l (r.at (r.read depth) (tighter l)) p) t q
  tails_reach (gr.operation {l = lev} {p} {q} {r = v} {u} {o} {b} e n o2 d) depth le =
      let w = reads_reach d depth (omega (arith, (opened_is q v o2).0, read_left _ p (o, q) e)) in
      mapped (gr.operated o) _ _ _ b u (λ y i. steps.operated_is (r.read depth) lev (r.at (r.read depth) (tighter lev)) p v (o, q) y e n o2 i) w
  tails_reach (gr.cast {p} {q} {r = v} {u} {kind} {t} e o d n n2) depth le =
      exact _ _ _ _ (steps.cast_is (r.read depth) (r.at (r.read depth) (tighter level.Cast)) p v (kind, q) (t, u) e o (types.annotation_at_exact d (record { no_question = n; no_questions = n2 })) n n2)
  tails_reach (gr.member_access {p} {q} {r = v} {u} {is_optional} {n} e o e2) depth le =
      exact _ _ _ _ (steps.member_is (r.read depth) (r.at (r.read depth) (tighter level.Postfix)) p v (is_optional, q) (n, u) e o e2)
  tails_reach (gr.index {p} {q} {r = v} {u} {v = v2} {i} e o d c) depth le =
      let below : v.left < depth = omega (arith, (opened_is q v o).0, joined_left s.OpenBracket p q e) in
      let f = exactly _ _ _ _ (inner depth level.Conditional v i u below (λ j lk. reads_reach d j lk)) (resumed_weak s.CloseBracket v u v2 (λ y. cc) (λ y. omega arith) c) in
      exact _ _ _ _ (steps.indexed_is (r.read depth) (r.at (r.read depth) (tighter level.Postfix)) p q v v2 (i, u) e o f c)
  tails_reach (gr.call {p} {q} {r = v} {u} {all} e o w) depth le =
      let below : v.left < depth = omega (arith, (opened_is q v o).0, joined_left s.OpenParenthesis p q e) in
      exact _ _ _ _ (steps.call_is (r.read depth) (r.at (r.read depth) (tighter level.Postfix)) p q v u all e o (arguments_read depth v u all (parts_read w round depth below)))
  tails_reach (gr.typed_call {p} {q} {r = v} {u} {v = v2} {types = written} {all} t e o w) depth le =
      let below : u.left < depth = omega (arith, (opened_is v u o).0, joined_left s.OpenParenthesis q v e, typed_left t) in
      exact _ _ _ _ (steps.typed_is (r.read depth) (r.at (r.read depth) (tighter level.Postfix)) p q v u v2 written all t e o (arguments_read depth u v2 all (parts_read w round depth below)))
  tails_reach (gr.force {p} {q} {r = v} e o) depth le = exact _ _ _ _ (steps.forced_is (r.read depth) (r.at (r.read depth) (tighter level.Postfix)) p q v e o)

  part_reach : {part : Part} {p q : Spot} {a : TreeOf part} → ReadsPart part p a q → (depth : ℕ) → p.left < depth → strength q < 1 → part_reader (r.read depth) part p ≡ Some (a, q)
  part_reach (gr.element {p} {q} {a} d) depth below lt = exactly _ _ _ _ (inner depth level.Conditional p a q below (λ i lk. reads_reach d i lk)) lt
  part_reach (gr.bare {p} {q} {a} e d) depth below lt =
      either_not (label p) _ _ e ∙ then_is (r.read depth level.Conditional p) _ (a, q) (exactly _ _ _ _ (inner depth level.Conditional p a q below (λ i lk. reads_reach d i lk)) lt)
  part_reach (gr.labelled {p} {q} {r = v} {n} {a} e d) depth below lt =
      let below2 : q.left < depth = omega (arith, label_left p (n, q) e) in
      either_is (label p) _ _ (n, q) e ∙ then_is (r.read depth level.Conditional q) _ (a, v) (exactly _ _ _ _ (inner depth level.Conditional q a v below2 (λ i lk. reads_reach d i lk)) lt)
  part_reach (gr.entry {p} {q} {r = v} {u} {a} {b} d c d2) depth below lt =
      let below2 : v.left < depth = omega (arith, resumed_left s.Colon p q v c) in
      then_is (r.read depth level.Conditional p) _ (a, q) (exactly _ _ _ _ (inner depth level.Conditional p a q below (λ i lk. reads_reach d i lk)) (resumed_weak s.Colon p q v (λ y. cc) (λ y. omega arith) c))
      ∙ then_is (resumed s.Colon p q) _ v c
      ∙ then_is (r.read depth level.Conditional v) _ (b, u) (exactly _ _ _ _ (inner depth level.Conditional v b u below2 (λ i lk. reads_reach d2 i lk)) lt)

  parts_read : {part : Part} {closing : Sign} {p q : Spot} {all : List (TreeOf part)} → Parts part closing p all q → Closes closing → (depth : ℕ) → p.left < depth
      → Listed (IsRead (part_reader (r.read depth) part)) closing p all q
  parts_read (gr.none e) h depth below = l.none e
  parts_read (gr.last {closing = closing} {p = p} {q = q} {r = v} d e) h depth below = l.last (part_reach d depth below (resumed_weak closing p q v h.is_no_less h.weak e)) e
  parts_read (gr.more {closing = closing} {p = p} {q = q} {r = v} d e w) h depth below =
      l.more (part_reach d depth below (resumed_weak s.Comma p q v (λ y. cc) (λ y. omega arith) e)) e (parts_read w h depth (omega (arith, resumed_left s.Comma p q v e)))
