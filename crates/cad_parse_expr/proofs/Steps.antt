-- The readers, a step at a time, over any reader of what stands one nesting deeper.
use Rattle.std.proofs.Common.{◌≡◌, ◌<◌, Bool, List, [], length, Option, Some, None, refl, sym, ap, ◌∙◌}
use Rattle.cad_grammar.specs.declared.token.Sign.{Sign}
use Rattle.cad_grammar.specs.declared.token.Sign.TheVariants as s
use Rattle.cad_syntax.specs.declared.keyword.Keyword.TheVariants as k
use Rattle.cad_grammar.specs.declared.token.TokenKind.TheVariants as kind
use Rattle.cad_syntax.specs.declared.text.Name.{Name}
use Rattle.cad_syntax.specs.declared.address.Domain.{Domain}
use Rattle.cad_grammar.specs.declared.level.Level.{Level}
use Rattle.cad_grammar.specs.declared.level.Level.TheVariants as level
use Rattle.cad_grammar.specs.declared.level.TypePosition.TheVariants as position
use Rattle.cad_grammar.specs.declared.expression.BinaryOperator.{BinaryOperator}
use Rattle.cad_grammar.specs.declared.expression.BinaryOperator.TheVariants as op
use Rattle.cad_grammar.specs.declared.expression.UnaryOperator.{UnaryOperator}
use Rattle.cad_grammar.specs.declared.expression.CastKind.{CastKind}
use Rattle.cad_grammar.specs.Trees.{TypeTree, Annotation, ExprTree, ArgumentTree, EntryTree, exprs_of, arguments_of, entries_of}
use Rattle.cad_grammar.specs.Trees as tree
use Rattle.cad_grammar.specs.Spots.{Spot, back, named, then, after, joined, keyword, name, opened, opening, resumed}
use Rattle.cad_grammar.specs.Levels.{tighter, operator, cast_word, unary_of, unary_word, dot_of, dot, literal_of, literal, domain_name, question, questions}
use Rattle.cad_parse_type.specs.Code.Levels.{level_number}
use Rattle.cad_grammar.specs.ExpressionGrammar.{TypeArguments, HasNoTypeArguments, Tail, operated, cast_to, member, indexed_by, called_with, forced, extend}
use Rattle.cad_parse_type.specs.Code.Reading.{Found, Reader, climb, dotted, type_at, annotation_at}
use Rattle.cad_parse_type.proofs.Heads.{none_of, some_same, after_head, joined_head, keyword_head, read_head, read_not, opening_is, opening_head, name_head, not_after, not_joined, name_no_sign, name_no_keyword, keyword_no_sign}
use Rattle.cad_parse_type.proofs.Climbs.{then_is, then_not, either_is, either_not}
use Rattle.cad_parse_expr.specs.Code.Reading.{unless, over, type_arguments, strength}
use Rattle.cad_parse_expr.specs.Code.Reading as r
use Rattle.cad_parse_expr.proofs.Sound.{type_arguments_exact, finds_no_type_arguments}
use Rattle.cad_parse_expr.proofs.Strength.{HasOperators, IsChain, arguments_begin, no_arguments, operator_is, weak_arguments, weak_operator, weak_cast, weak_dot, weak_joined}

unless_not : {A B : Type 0} (o : Option A) (d : Option B) → o ≡ None → unless o d ≡ d
unless_not o d e = ap (λ y. unless y d) e

over_made : {A : Type 0} (o : Found A) (t : A × Spot) → o ≡ Some t → question position.BehindAs t.1 ≡ None → questions position.BehindAs t.1 ≡ None → then o over ≡ Some t
over_made o t e n n2 = then_is o over t e ∙ unless_not (question position.BehindAs t.1) _ n ∙ unless_not (questions position.BehindAs t.1) _ n2

-- a literal is neither a sign nor `create`
literal_sign : (sign : Sign) (p : Spot) (x : ExprTree × Spot) → literal p ≡ Some x → after sign p ≡ None
literal_sign sign p x e = none_of (after sign p) (λ q f.
    let w = read_head literal_of p x e in
    let same : w.0 ≡ kind.Sign sign = some_same w.0 (kind.Sign sign) (sym w.1 ∙ after_head sign p q f) in
    let c : None ≡ Some x.0 = sym (ap literal_of same) ∙ w.2 in cc)

literal_create : (p : Spot) (x : ExprTree × Spot) → literal p ≡ Some x → keyword k.Create p ≡ None
literal_create p x e = none_of (keyword k.Create p) (λ q f.
    let w = read_head literal_of p x e in
    let same : w.0 ≡ kind.Keyword k.Create = some_same w.0 (kind.Keyword k.Create) (sym w.1 ∙ keyword_head k.Create p q f) in
    let c : None ≡ Some x.0 = sym (ap literal_of same) ∙ w.2 in cc)

-- a sign other than `<` begins no type arguments, and no sign but dots is a dot
sign_no_arguments : (sign : Sign) (p q : Spot) → (sign ≡ s.Less → ⊥) → joined sign p ≡ Some q → type_arguments p ≡ None
sign_no_arguments sign p q ne e = no_arguments p (kind.Sign sign) (joined_head sign p q e) (λ c. ne (let d : kind.Sign sign ≡ kind.Sign s.Less = c in cc))

module _ (read : Level → Reader ExprTree) where
  pub literal_is : (p : Spot) (x : ExprTree × Spot) → literal p ≡ Some x → r.at read level.Primary p ≡ Some x
  unfolding r.at r.primary
  literal_is p x e =
      either_not (after s.OpenParenthesis p) _ _ (literal_sign s.OpenParenthesis p x e) ∙ either_not (after s.OpenBracket p) _ _ (literal_sign s.OpenBracket p x e)
      ∙ either_not (after s.OpenBrace p) _ _ (literal_sign s.OpenBrace p x e) ∙ either_not (after s.Slash p) _ _ (literal_sign s.Slash p x e)
      ∙ either_not (keyword k.Create p) _ _ (literal_create p x e) ∙ either_is (literal p) _ _ x e

  pub name_is : (p : Spot) (n : Name × Spot) → name p ≡ Some n → r.at read level.Primary p ≡ Some (tree.name n.0, named n.1)
  unfolding r.at r.primary r.name_expr
  name_is p n e =
      let h = name_head p n e in
      either_not (after s.OpenParenthesis p) _ _ (name_no_sign s.OpenParenthesis n.0 p h) ∙ either_not (after s.OpenBracket p) _ _ (name_no_sign s.OpenBracket n.0 p h)
      ∙ either_not (after s.OpenBrace p) _ _ (name_no_sign s.OpenBrace n.0 p h) ∙ either_not (after s.Slash p) _ _ (name_no_sign s.Slash n.0 p h)
      ∙ either_not (keyword k.Create p) _ _ (name_no_keyword k.Create n.0 p h) ∙ either_not (literal p) _ _ (read_not literal_of p (kind.Name n.0) h refl)
      ∙ then_is (name p) _ n e

  pub path_is : (p q u : Spot) (d : Domain × Spot) (n : Name × Spot) → after s.Slash p ≡ Some q → domain_name q ≡ Some d → after s.Slash d.1 ≡ Some u → name u ≡ Some n
      → r.at read level.Primary p ≡ Some (tree.path (record { domain = d.0; identifier = n.0 }), n.1)
  unfolding r.at r.primary r.path_tail
  path_is p q u d n e e2 e3 e4 =
      let h = after_head s.Slash p q e in
      either_not (after s.OpenParenthesis p) _ _ (not_after s.Slash s.OpenParenthesis p (λ x. cc) h) ∙ either_not (after s.OpenBracket p) _ _ (not_after s.Slash s.OpenBracket p (λ x. cc) h)
      ∙ either_not (after s.OpenBrace p) _ _ (not_after s.Slash s.OpenBrace p (λ x. cc) h) ∙ either_is (after s.Slash p) _ _ q e
      ∙ then_is (domain_name q) _ d e2 ∙ then_is (after s.Slash d.1) _ u e3 ∙ then_is (name u) _ n e4

  pub created_is : (p q u v : Spot) (n : List Name × Spot) (all : List ArgumentTree) → keyword k.Create p ≡ Some q → dotted q ≡ Some n → opening s.OpenParenthesis n.1 ≡ Some u
      → r.arguments read u ≡ Some (all, v) → r.at read level.Primary p ≡ Some (tree.create n.0 (arguments_of all), back p v)
  unfolding r.at r.primary r.created
  created_is p q u v n all e d o w =
      let h = keyword_head k.Create p q e in
      either_not (after s.OpenParenthesis p) _ _ (keyword_no_sign s.OpenParenthesis k.Create p h) ∙ either_not (after s.OpenBracket p) _ _ (keyword_no_sign s.OpenBracket k.Create p h)
      ∙ either_not (after s.OpenBrace p) _ _ (keyword_no_sign s.OpenBrace k.Create p h) ∙ either_not (after s.Slash p) _ _ (keyword_no_sign s.Slash k.Create p h)
      ∙ either_is (keyword k.Create p) _ _ q e ∙ then_is (dotted q) _ n d ∙ then_is (opening s.OpenParenthesis n.1) _ u o ∙ then_is (r.arguments read u) _ (all, v) w

  pub grouped_is : (p q u : Spot) (x : ExprTree × Spot) → opening s.OpenParenthesis p ≡ Some q → read level.Conditional q ≡ Some x → resumed s.CloseParenthesis p x.1 ≡ Some u
      → r.at read level.Primary p ≡ Some (x.0, u)
  unfolding r.at r.primary r.grouped
  grouped_is p q u x o d c =
      let w = opening_is s.OpenParenthesis p q o in
      either_is (after s.OpenParenthesis p) _ _ w.0 w.1 ∙ then_is (opened w.0) _ q w.2 ∙ then_is (read level.Conditional q) _ x d ∙ then_is (resumed s.CloseParenthesis p x.1) _ u c

  pub listed_is : (p q v : Spot) (all : List ExprTree) → opening s.OpenBracket p ≡ Some q → r.elements read q ≡ Some (all, v)
      → r.at read level.Primary p ≡ Some (tree.list (exprs_of all), back p v)
  unfolding r.at r.primary r.array
  listed_is p q v all o d =
      let w = opening_is s.OpenBracket p q o in
      either_not (after s.OpenParenthesis p) _ _ (not_after s.OpenBracket s.OpenParenthesis p (λ x. cc) (opening_head s.OpenBracket p q o))
      ∙ either_is (after s.OpenBracket p) _ _ w.0 w.1 ∙ then_is (opened w.0) _ q w.2 ∙ then_is (r.elements read q) _ (all, v) d

  pub paired_is : (p q v : Spot) (all : List EntryTree) → opening s.OpenBrace p ≡ Some q → r.entries read q ≡ Some (all, v)
      → r.at read level.Primary p ≡ Some (tree.pairs (entries_of all), back p v)
  unfolding r.at r.primary r.pairs
  paired_is p q v all o d =
      let w = opening_is s.OpenBrace p q o in
      let h = opening_head s.OpenBrace p q o in
      either_not (after s.OpenParenthesis p) _ _ (not_after s.OpenBrace s.OpenParenthesis p (λ x. cc) h) ∙ either_not (after s.OpenBracket p) _ _ (not_after s.OpenBrace s.OpenBracket p (λ x. cc) h)
      ∙ either_is (after s.OpenBrace p) _ _ w.0 w.1 ∙ then_is (opened w.0) _ q w.2 ∙ then_is (r.entries read q) _ (all, v) d

  -- ---- prefixes and what groups to the right

  pub prefixed_is : (p u : Spot) (o : UnaryOperator × Spot) (x : ExprTree × Spot) → unary_word p ≡ Some o → opened o.1 ≡ Some u → read level.Prefix u ≡ Some x
      → r.at read level.Prefix p ≡ Some (tree.unary o.0 x.0, x.1)
  unfolding r.at r.prefix r.unary
  prefixed_is p u o x e o2 d = either_is (unary_word p) _ _ o e ∙ then_is (opened o.1) _ u o2 ∙ then_is (read level.Prefix u) _ x d

  pub borrowed_is : (p q u v w : Spot) (x : ExprTree × Spot) (t : TypeTree × Spot) → after s.Ampersand p ≡ Some q → opened q ≡ Some u → read level.Prefix u ≡ Some x
      → keyword k.As x.1 ≡ Some v → opened v ≡ Some w → type_at position.BehindAs w ≡ Some t → question position.BehindAs t.1 ≡ None → questions position.BehindAs t.1 ≡ None
      → r.at read level.Prefix p ≡ Some (tree.borrow x.0 t.0, t.1)
  unfolding r.at r.prefix r.borrowed r.as_type
  borrowed_is p q u v w x t e o d e2 o2 f n n2 =
      either_not (unary_word p) _ _ (read_not unary_of p (kind.Sign s.Ampersand) (after_head s.Ampersand p q e) refl) ∙ either_is (after s.Ampersand p) _ _ q e
      ∙ then_is (opened q) _ u o ∙ then_is (read level.Prefix u) _ x d
      ∙ then_is (r.as_type x.1) _ t (then_is (keyword k.As x.1) _ v e2 ∙ then_is (opened v) _ w o2 ∙ over_made (type_at position.BehindAs w) t f n n2)

  pub coalesce_is : (p v u : Spot) (a b : ExprTree × Spot) → r.at read level.BitOr p ≡ Some a → after s.Coalesce a.1 ≡ Some v → opened v ≡ Some u → read level.Coalesce u ≡ Some b
      → r.at read level.Coalesce p ≡ Some (tree.binary op.Coalesce a.0 b.0, b.1)
  unfolding r.at r.coalesce r.fallback
  coalesce_is p v u a b d e o f = then_is (r.bit_or read p) _ a d ∙ either_is (r.fallback read a.1) _ _ b (then_is (after s.Coalesce a.1) _ v e ∙ then_is (opened v) _ u o ∙ f)

  pub conditional_is : (p v u w : Spot) (c a b : ExprTree × Spot) → r.at read level.Or p ≡ Some c → after s.Question c.1 ≡ Some v → opened v ≡ Some u → read level.Conditional u ≡ Some a
      → after s.Colon a.1 ≡ Some w → read level.Conditional w ≡ Some b → r.at read level.Conditional p ≡ Some (tree.conditional c.0 a.0 b.0, b.1)
  unfolding r.at r.conditional r.branches
  conditional_is p v u w c a b d e o f e2 h =
      then_is (r.disjunction read p) _ c d ∙ either_is (r.branches read c.1) _ _ ((a.0, b.0), b.1)
      (then_is (after s.Question c.1) _ v e ∙ then_is (opened v) _ u o ∙ then_is (read level.Conditional u) _ a f ∙ then_is (after s.Colon a.1) _ w e2 ∙ then_is (read level.Conditional w) _ b h)

  -- ---- tails

  tail_operated : (l : Level) (base : Reader ExprTree) (p : Spot) → HasOperators l → r.tail read l base p ≡ r.operation l base p
  unfolding r.tail
  tail_operated level.Or base p h = refl
  tail_operated level.And base p h = refl
  tail_operated level.Comparison base p h = refl
  tail_operated level.BitOr base p h = refl
  tail_operated level.BitXor base p h = refl
  tail_operated level.BitAnd base p h = refl
  tail_operated level.Sum base p h = refl
  tail_operated level.Product base p h = refl
  tail_operated _ base p h = absurd h

  pub operated_is : (l : Level) (base : Reader ExprTree) (p u : Spot) (o : BinaryOperator × Spot) (b : ExprTree × Spot) → operator l p ≡ Some o → HasNoTypeArguments p → opened o.1 ≡ Some u → base u ≡ Some b
      → r.tail read l base p ≡ Some (operated o.0 b.0, b.1)
  unfolding r.operation
  operated_is l base p u o b e n o2 d =
      tail_operated l base p (operator_is l p o e).0 ∙ then_is (operator l p) _ o e ∙ unless_not (type_arguments p) _ (finds_no_type_arguments p n)
      ∙ then_is (opened o.1) _ u o2 ∙ then_is (base u) _ b d

  pub cast_is : (base : Reader ExprTree) (p u : Spot) (c : CastKind × Spot) (t : Annotation × Spot) → cast_word p ≡ Some c → opened c.1 ≡ Some u → annotation_at position.BehindAs u ≡ Some t
      → question position.BehindAs t.1 ≡ None → questions position.BehindAs t.1 ≡ None → r.tail read level.Cast base p ≡ Some (cast_to c.0 t.0, t.1)
  unfolding r.tail r.cast_tail
  cast_is base p u c t e o d n n2 =
      then_is (cast_word p) _ c e ∙ then_is (opened c.1) _ u o ∙ then_is (then (annotation_at position.BehindAs u) over) _ t (over_made (annotation_at position.BehindAs u) t d n n2)

  pub member_is : (base : Reader ExprTree) (p u : Spot) (o : Bool × Spot) (n : Name × Spot) → dot p ≡ Some o → opened o.1 ≡ Some u → name u ≡ Some n
      → r.tail read level.Postfix base p ≡ Some (member o.0 n.0, named n.1)
  unfolding r.tail r.postfix_tail r.member_tail
  member_is base p u o n e o2 e2 = either_is (dot p) _ _ o e ∙ then_is (opened o.1) _ u o2 ∙ then_is (name u) _ n e2

  pub call_is : (base : Reader ExprTree) (p q u v : Spot) (all : List ArgumentTree) → joined s.OpenParenthesis p ≡ Some q → opened q ≡ Some u → r.arguments read u ≡ Some (all, v)
      → r.tail read level.Postfix base p ≡ Some (called_with [] all, v)
  unfolding r.tail r.postfix_tail r.call_tail
  call_is base p q u v all e o d =
      either_not (dot p) _ _ (read_not dot_of p (kind.Sign s.OpenParenthesis) (joined_head s.OpenParenthesis p q e) refl)
      ∙ either_not (type_arguments p) _ _ (sign_no_arguments s.OpenParenthesis p q (λ x. cc) e) ∙ either_is (joined s.OpenParenthesis p) _ _ q e
      ∙ then_is (opened q) _ u o ∙ then_is (r.arguments read u) _ (all, v) d

  pub typed_is : (base : Reader ExprTree) (p q v u w : Spot) (types : List Annotation) (all : List ArgumentTree) → TypeArguments p types q → joined s.OpenParenthesis q ≡ Some v → opened v ≡ Some u
      → r.arguments read u ≡ Some (all, w) → r.tail read level.Postfix base p ≡ Some (called_with types all, w)
  unfolding r.tail r.postfix_tail r.typed_call r.call_tail
  typed_is base p q v u w types all t e o d =
      either_not (dot p) _ _ (read_not dot_of p (kind.Sign s.Less) (arguments_begin t) refl) ∙ either_is (type_arguments p) _ _ (types, q) (type_arguments_exact t)
      ∙ then_is (joined s.OpenParenthesis q) _ v e ∙ then_is (opened v) _ u o ∙ then_is (r.arguments read u) _ (all, w) d

  pub indexed_is : (base : Reader ExprTree) (p q u v : Spot) (x : ExprTree × Spot) → joined s.OpenBracket p ≡ Some q → opened q ≡ Some u → read level.Conditional u ≡ Some x
      → resumed s.CloseBracket u x.1 ≡ Some v → r.tail read level.Postfix base p ≡ Some (indexed_by x.0, v)
  unfolding r.tail r.postfix_tail r.index_tail
  indexed_is base p q u v x e o d c =
      let h = joined_head s.OpenBracket p q e in
      either_not (dot p) _ _ (read_not dot_of p (kind.Sign s.OpenBracket) h refl) ∙ either_not (type_arguments p) _ _ (sign_no_arguments s.OpenBracket p q (λ y. cc) e)
      ∙ either_not (joined s.OpenParenthesis p) _ _ (not_joined s.OpenBracket s.OpenParenthesis p (λ y. cc) h) ∙ either_is (joined s.OpenBracket p) _ _ q e
      ∙ then_is (opened q) _ u o ∙ then_is (read level.Conditional u) _ x d ∙ then_is (resumed s.CloseBracket u x.1) _ v c

  pub forced_is : (base : Reader ExprTree) (p q u : Spot) → joined s.Bang p ≡ Some q → opened q ≡ Some u → r.tail read level.Postfix base p ≡ Some (forced, u)
  unfolding r.tail r.postfix_tail r.force_tail
  forced_is base p q u e o =
      let h = joined_head s.Bang p q e in
      either_not (dot p) _ _ (read_not dot_of p (kind.Sign s.Bang) h refl) ∙ either_not (type_arguments p) _ _ (sign_no_arguments s.Bang p q (λ y. cc) e)
      ∙ either_not (joined s.OpenParenthesis p) _ _ (not_joined s.Bang s.OpenParenthesis p (λ y. cc) h) ∙ either_not (joined s.OpenBracket p) _ _ (not_joined s.Bang s.OpenBracket p (λ y. cc) h)
      ∙ either_is (joined s.Bang p) _ _ q e ∙ then_is (opened q) _ u o

  no_operation : (l : Level) (base : Reader ExprTree) (p : Spot) → HasOperators l → strength p < level_number l → r.tail read l base p ≡ None
  unfolding r.operation
  no_operation l base p h lt = tail_operated l base p h ∙ then_not (operator l p) _ (weak_operator l p lt)

  -- where a weaker token follows, no tail does
  pub tail_stops : (l : Level) (base : Reader ExprTree) (p : Spot) → IsChain l → strength p < level_number l → r.tail read l base p ≡ None
  unfolding r.tail r.cast_tail r.postfix_tail
  tail_stops level.Or base p h lt = no_operation level.Or base p h lt
  tail_stops level.And base p h lt = no_operation level.And base p h lt
  tail_stops level.Comparison base p h lt = no_operation level.Comparison base p h lt
  tail_stops level.BitOr base p h lt = no_operation level.BitOr base p h lt
  tail_stops level.BitXor base p h lt = no_operation level.BitXor base p h lt
  tail_stops level.BitAnd base p h lt = no_operation level.BitAnd base p h lt
  tail_stops level.Sum base p h lt = no_operation level.Sum base p h lt
  tail_stops level.Product base p h lt = no_operation level.Product base p h lt
  tail_stops level.Cast base p h lt = then_not (cast_word p) _ (weak_cast p lt)
  tail_stops level.Postfix base p h lt =
      either_not (dot p) _ _ (weak_dot p lt) ∙ either_not (type_arguments p) _ _ (weak_arguments p lt)
      ∙ either_not (joined s.OpenParenthesis p) _ _ (weak_joined s.OpenParenthesis p (λ x. cc) lt) ∙ either_not (joined s.OpenBracket p) _ _ (weak_joined s.OpenBracket p (λ x. cc) lt)
      ∙ either_not (joined s.Bang p) _ _ (weak_joined s.Bang p (λ x. cc) lt)
  tail_stops _ base p h lt = absurd h

  pub at_chain : (l : Level) (p : Spot) → IsChain l → r.at read l p ≡ r.chained read l (r.at read (tighter l)) p
  unfolding r.at
  at_chain level.Or p h = refl
  at_chain level.And p h = refl
  at_chain level.Comparison p h = refl
  at_chain level.BitOr p h = refl
  at_chain level.BitXor p h = refl
  at_chain level.BitAnd p h = refl
  at_chain level.Sum p h = refl
  at_chain level.Product p h = refl
  at_chain level.Cast p h = refl
  at_chain level.Postfix p h = refl
  at_chain _ p h = absurd h

pub chain_is : (base : Reader ExprTree) (tail : Reader Tail) (p : Spot) (x : ExprTree × Spot) → base p ≡ Some x → r.chain base tail p ≡ climb extend tail (length x.1.tokens) x.0 x.1
unfolding r.chain
chain_is base tail p x d = then_is (base p) _ x d
