-- The readers, a step at a time, over any reader of what stands one nesting deeper.
use Rattle.std.proofs.Common.{◌≡◌, ℕ, zero, suc, ◌<◌, ◌≤◌, Bool, true, false, if◌then◌else◌, List, [], ◌∷◌, ◌++◌, length, Option, Some, None, refl, sym, ap, ◌∙◌, arith}
use Rattle.cad_grammar.specs.declared.token.Sign.TheVariants as s
use Rattle.cad_syntax.specs.declared.keyword.Keyword.{Keyword}
use Rattle.cad_syntax.specs.declared.keyword.Keyword.TheVariants as k
use Rattle.cad_grammar.specs.declared.token.TokenKind.{TokenKind}
use Rattle.cad_grammar.specs.declared.token.TokenKind.TheVariants as kind
use Rattle.cad_grammar.specs.declared.token.Token.{Token}
use Rattle.cad_syntax.specs.declared.text.Name.{Name}
use Rattle.cad_grammar.specs.declared.statement.VariableKind.{VariableKind}
use Rattle.cad_grammar.specs.declared.statement.Transfer.{Transfer}
use Rattle.cad_grammar.specs.Trees.{Annotation, ExprTree, TestTree, SecondTree, StmtTree, OtherwiseTree, CaseTree, stmts_of, cases_of, Default}
use Rattle.cad_grammar.specs.Trees as tree
use Rattle.cad_grammar.specs.Spots.{Spot, back, behind, only_if, next_of, next, is_keyword, after, keyword, name, opened, opening}
use Rattle.cad_grammar.specs.Levels.{keyword_start}
use Rattle.cad_parse_type.specs.Code.Levels.{token_strength, start}
use Rattle.cad_grammar.specs.StatementGrammar.{Tested, Seconded, Loops, MaybeAnnotated, variable_word, variable_kind_of, transfer, begins_plainly, parted, ends, value_follows}
use Rattle.cad_grammar.specs.StatementGrammar as g
use Rattle.cad_grammar.specs.Lists as lists
use Rattle.cad_parse_type.specs.Code.Reading.{Reader, annotation}
use Rattle.cad_parse_type.proofs.TypeLaws.{TypeLaws}
use Rattle.cad_parse_type.proofs.Heads.{none_of, some_same, keyword_head, head_start, read_not, keyword_no_sign, opened_is}
use Rattle.cad_parse_type.proofs.Climbs.{then_is, either_is, either_not}
use Rattle.cad_parse_type.proofs.ListLaws.{maybe_exact}
use Rattle.cad_parse_expr.specs.Code.Reading.{expression}
use Rattle.cad_parse_expr.proofs.ExpressionLaws.{ExpressionLaws}
use Rattle.cad_parse_statement.specs.Code.Reading.{Sort, a_statement, an_if, NamedValue}
use Rattle.cad_parse_statement.specs.Code.Reading as r
use Rattle.cad_parse_statement.proofs.PartLaws.{Valued, valued}
use Rattle.cad_parse_statement.proofs.Facts.{transfer_weak, variable_start}

pub if_is : {A : Type 0} (b : Bool) (x y : A) → b ≡ true → (if b then x else y) ≡ x
if_is b x y e = ap (λ c. if c then x else y) e

pub if_not : {A : Type 0} (b : Bool) (x y : A) → b ≡ false → (if b then x else y) ≡ y
if_not b x y e = ap (λ c. if c then x else y) e

-- ---- the token that comes next

-- of two different keywords one comes next
pub other_keyword : (a b : Keyword) (p q : Spot) → (a ≡ b → ⊥) → keyword a p ≡ Some q → keyword b p ≡ None
other_keyword a b p q ne e = none_of (keyword b p) (λ u f. let c : Some (kind.Keyword a) ≡ Some (kind.Keyword b) = sym (keyword_head a p q e) ∙ keyword_head b p u f in ne (cc))

no_variable : (a : Keyword) (p q : Spot) → variable_kind_of (kind.Keyword a) ≡ None → keyword a p ≡ Some q → variable_word p ≡ None
no_variable a p q n e = read_not variable_kind_of p (kind.Keyword a) (keyword_head a p q e) n

started_no_keyword : (word : Keyword) (p : Spot) → keyword_start word ≡ 0 → 12 ≤ start p → keyword word p ≡ None
started_no_keyword word p z lt = none_of (keyword word p) (λ q e. omega (arith, head_start p (kind.Keyword word) (keyword_head word p q e)))

started_no_variable : (p : Spot) → 12 ≤ start p → variable_word p ≡ None
started_no_variable p lt = none_of (variable_word p) (λ x e. let w = variable_start p x e in omega (arith, head_start p w.0 w.1, w.2))

-- the same token passes the test with other nestings
only_if_any : (b : Bool) (p q u : Spot) → only_if b p ≡ Some q → only_if b u ≡ Some u
only_if_any true p q u e = refl
only_if_any false p q u e = cc

next_of_any : (test : Bool → TokenKind → Bool) (p q u : Spot) (ts : List Token) → next_of test p ts ≡ Some q → (x : Spot) × (next_of test u ts ≡ Some x)
next_of_any test p q u [] e = cc
next_of_any test p q u (t ∷ ts) e = (behind u ts, only_if_any (test t.after_break t.kind) (behind p ts) q (behind u ts) e)

-- a keyword that comes next behind a nesting that is opened comes next before it too
pub opened_keyword : (word : Keyword) (p q u : Spot) → opened p ≡ Some q → keyword word q ≡ Some u → (x : Spot) × (keyword word p ≡ Some x)
unfolding next
opened_keyword word p q u o e =
    let test : Bool → TokenKind → Bool = λ broken found. is_keyword word found in
    let w = next_of_any test q u p q.tokens e in
    (w.0, ap (λ ts. next_of test p ts) (sym (opened_is p q o).1) ∙ w.1)

-- ---- parts

pub loops_exact : {p q : Spot} {i : Option Name} {n : Name} → Loops p i n q → r.loops p ≡ Some ((i, n), q)
unfolding r.loops
loops_exact {p} {q = z} (g.over {q = q} {n = n} a b) =
    then_is (name p) _ (n, q) a ∙ either_not (after s.Comma q) _ _ (keyword_no_sign s.Comma k.In q (keyword_head k.In q z b)) ∙ then_is (keyword k.In q) _ z b
loops_exact {p} {q = z} (g.indexed {q = q} {r = w} {u = u} {i = i} {n = n} a b c d) =
    then_is (name p) _ (i, q) a ∙ either_is (after s.Comma q) _ _ w b ∙ then_is (name w) _ (n, u) c ∙ then_is (keyword k.In u) _ z d

module _ (types : TypeLaws) (expressions : ExpressionLaws) where
  pub annotated_exact : {p q : Spot} {a : Option Annotation} → MaybeAnnotated p a q → token_strength q ≡ 0 → r.maybe_annotated p ≡ Some (a, q)
  unfolding r.maybe_annotated
  annotated_exact (lists.absent e) st = maybe_exact (after s.Colon) annotation (lists.absent e)
  annotated_exact (lists.present e d) st = maybe_exact (after s.Colon) annotation (lists.present e (types.annotation_exact d st))

  pub named_value_exact : {p q : Spot} {b : NamedValue} → Valued p b q → token_strength q ≡ 0 → r.named_value p ≡ Some (b, q)
  unfolding r.named_value
  named_value_exact {p} {q = z} (valued {q = q} {r = w} {u = u} {n = n} {a = a} {t = t} {e = v} e1 e2 e3 e4) st =
      then_is (name p) _ (n, q) e1 ∙ then_is (r.maybe_annotated q) _ (a, w) (annotated_exact e2 (transfer_weak w (t, u) e3))
      ∙ then_is (transfer w) _ (t, u) e3 ∙ then_is (expression u) _ (v, z) (expressions.expression_exact e4 st)

  pub tested_exact : {p q : Spot} {t : TestTree} → Tested p t q → token_strength q ≡ 0 → r.tested p ≡ Some (t, q)
  unfolding r.tested
  tested_exact {p} {q = z} (g.expression_test {e = v} lacks d) st = either_not (variable_word p) _ _ lacks ∙ then_is (expression p) _ (v, z) (expressions.expression_exact d st)
  tested_exact {p} {q = z} (g.binding {q = q} {kind = found} {n = n} {a = a} {t = t} {e = v} e0 e1 e2 e3 e4) st =
      either_is (variable_word p) _ _ (found, q) e0
      ∙ then_is (r.named_value q) _ (record { name = n; annotation = a; transfer = t; value = v }, z) (named_value_exact (valued e1 e2 e3 e4) st)

  pub seconded_exact : {p q : Spot} {x : Option SecondTree} → Seconded p x q → token_strength q ≡ 0 → r.seconded p ≡ Some (x, q)
  unfolding r.seconded
  seconded_exact {p} (g.no_second e) st = either_not (transfer p) _ _ e
  seconded_exact {p} {q = z} (g.second {q = q} {t = t} {e = v} e d) st = either_is (transfer p) _ _ (t, q) e ∙ then_is (expression q) _ (v, z) (expressions.expression_exact d st)

-- ---- statements

module _ (read : Sort → Reader StmtTree) where
  pub body_is : (p : Spot) (x : List StmtTree × Spot) → r.statements (read a_statement) (length p.tokens) [] p ≡ Some x → r.body read p ≡ Some x
  unfolding r.body
  body_is p x e = e

  pub block_is : (p q u : Spot) (x : List StmtTree × Spot) → opening s.OpenBrace p ≡ Some q → r.body read q ≡ Some x → after s.CloseBrace x.1 ≡ Some u → r.block read p ≡ Some (x.0, back p u)
  unfolding r.block
  block_is p q u x o e c = then_is (opening s.OpenBrace p) _ q o ∙ then_is (r.body read q) _ x e ∙ then_is (after s.CloseBrace x.1) _ u c

  pub nothing_is : (p : Spot) → keyword k.Else p ≡ None → r.otherwise read p ≡ Some (tree.nothing, p)
  unfolding r.otherwise
  nothing_is p e = either_not (keyword k.Else p) _ _ e

  pub else_block_is : (p q : Spot) (x : List StmtTree × Spot) → keyword k.Else p ≡ Some q → keyword k.If q ≡ None → r.block read q ≡ Some x
      → r.otherwise read p ≡ Some (tree.else_block (stmts_of x.0), x.1)
  unfolding r.otherwise r.alternative
  else_block_is p q x e lacks b = either_is (keyword k.Else p) _ _ q e ∙ either_not (keyword k.If q) _ _ lacks ∙ then_is (r.block read q) _ x b

  pub else_if_is : (p q u v : Spot) (x : StmtTree × Spot) → keyword k.Else p ≡ Some q → keyword k.If q ≡ Some v → opened q ≡ Some u → read an_if u ≡ Some x
      → r.otherwise read p ≡ Some (tree.else_if x.0, x.1)
  unfolding r.otherwise r.alternative
  else_if_is p q u v x e f o d = either_is (keyword k.Else p) _ _ q e ∙ either_is (keyword k.If q) _ _ v f ∙ then_is (opened q) _ u o ∙ then_is (read an_if u) _ x d

  pub conditional_is : (q : Spot) (t : TestTree × Spot) (b : List StmtTree × Spot) (o : OtherwiseTree × Spot)
      → r.tested q ≡ Some t → r.block read t.1 ≡ Some b → r.otherwise read b.1 ≡ Some o → r.conditional read q ≡ Some (tree.if_else t.0 (stmts_of b.0) o.0, o.1)
  unfolding r.conditional r.branches
  conditional_is q t b o e1 e2 e3 =
      then_is (r.tested q) _ t e1
      ∙ then_is (r.branches read t.1) _ ((b.0, o.0), o.1) (then_is (r.block read t.1) _ b e2 ∙ then_is (r.otherwise read b.1) _ o e3)

  pub one_case_is : (q u : Spot) (v : ExprTree × Spot) (b : List StmtTree × Spot) → expression q ≡ Some v → after s.Colon v.1 ≡ Some u → r.body read u ≡ Some b
      → r.one_case read q ≡ Some (record { value = v.0; body = b.0 }, b.1)
  unfolding r.one_case
  one_case_is q u v b e1 e2 e3 = then_is (expression q) _ v e1 ∙ then_is (after s.Colon v.1) _ u e2 ∙ then_is (r.body read u) _ b e3

  pub all_cases_is : (p : Spot) (x : List CaseTree × Spot) → r.cases read (length p.tokens) [] p ≡ Some x → r.all_cases read p ≡ Some x
  unfolding r.all_cases
  all_cases_is p x e = e

  pub no_default_is : (p : Spot) → keyword k.Default p ≡ None → r.default read p ≡ Some (tree.no_default, p)
  unfolding r.default
  no_default_is p e = either_not (keyword k.Default p) _ _ e

  pub default_is : (p q u : Spot) (b : List StmtTree × Spot) → keyword k.Default p ≡ Some q → after s.Colon q ≡ Some u → r.body read u ≡ Some b
      → r.default read p ≡ Some (tree.default (stmts_of b.0), b.1)
  unfolding r.default
  default_is p q u b e1 e2 e3 = either_is (keyword k.Default p) _ _ q e1 ∙ then_is (after s.Colon q) _ u e2 ∙ then_is (r.body read u) _ b e3

  pub variable_is : (p : Spot) (f : VariableKind × Spot) (b : NamedValue × Spot) (x : Option SecondTree × Spot)
      → variable_word p ≡ Some f → r.named_value f.1 ≡ Some b → r.seconded b.1 ≡ Some x
      → r.statement read p ≡ Some (tree.variable f.0 b.0.name b.0.annotation b.0.transfer b.0.value x.0, x.1)
  unfolding r.statement r.variable
  variable_is p f b x e1 e2 e3 = either_is (variable_word p) _ _ f e1 ∙ then_is (r.named_value f.1) _ b e2 ∙ then_is (r.seconded b.1) _ x e3

  pub if_stmt_is : (p q : Spot) (x : StmtTree × Spot) → keyword k.If p ≡ Some q → r.conditional read q ≡ Some x → r.statement read p ≡ Some (x.0, back p x.1)
  unfolding r.statement
  if_stmt_is p q x e d =
      either_not (variable_word p) _ _ (no_variable k.If p q refl e) ∙ either_is (keyword k.If p) _ _ q e ∙ then_is (r.conditional read q) _ x d

  pub while_is : (p q : Spot) (v : ExprTree × Spot) (b : List StmtTree × Spot) → keyword k.While p ≡ Some q → expression q ≡ Some v → r.block read v.1 ≡ Some b
      → r.statement read p ≡ Some (tree.while_loop v.0 (stmts_of b.0), b.1)
  unfolding r.statement r.while_loop
  while_is p q v b e e1 e2 =
      either_not (variable_word p) _ _ (no_variable k.While p q refl e) ∙ either_not (keyword k.If p) _ _ (other_keyword k.While k.If p q (λ z. cc) e)
      ∙ either_is (keyword k.While p) _ _ q e ∙ then_is (expression q) _ v e1 ∙ then_is (r.block read v.1) _ b e2

  pub for_is : (p q : Spot) (n : (Option Name × Name) × Spot) (v : ExprTree × Spot) (b : List StmtTree × Spot)
      → keyword k.For p ≡ Some q → r.loops q ≡ Some n → expression n.1 ≡ Some v → r.block read v.1 ≡ Some b
      → r.statement read p ≡ Some (tree.for_loop n.0.0 n.0.1 v.0 (stmts_of b.0), b.1)
  unfolding r.statement r.for_loop
  for_is p q n v b e e0 e1 e2 =
      either_not (variable_word p) _ _ (no_variable k.For p q refl e) ∙ either_not (keyword k.If p) _ _ (other_keyword k.For k.If p q (λ z. cc) e)
      ∙ either_not (keyword k.While p) _ _ (other_keyword k.For k.While p q (λ z. cc) e) ∙ either_is (keyword k.For p) _ _ q e
      ∙ then_is (r.loops q) _ n e0 ∙ then_is (expression n.1) _ v e1 ∙ then_is (r.block read v.1) _ b e2

  pub switch_is : (p q u z : Spot) (v : ExprTree × Spot) (c : List CaseTree × Spot) (d : Default × Spot)
      → keyword k.Switch p ≡ Some q → expression q ≡ Some v → opening s.OpenBrace v.1 ≡ Some u → r.all_cases read u ≡ Some c
      → r.default read c.1 ≡ Some d → after s.CloseBrace d.1 ≡ Some z → r.statement read p ≡ Some (tree.switch v.0 (cases_of c.0) d.0, back p z)
  unfolding r.statement r.switch r.sections
  switch_is p q u z v c d e e1 e2 e3 e4 e5 =
      either_not (variable_word p) _ _ (no_variable k.Switch p q refl e) ∙ either_not (keyword k.If p) _ _ (other_keyword k.Switch k.If p q (λ x. cc) e)
      ∙ either_not (keyword k.While p) _ _ (other_keyword k.Switch k.While p q (λ x. cc) e) ∙ either_not (keyword k.For p) _ _ (other_keyword k.Switch k.For p q (λ x. cc) e)
      ∙ either_is (keyword k.Switch p) _ _ q e ∙ then_is (expression q) _ v e1 ∙ then_is (opening s.OpenBrace v.1) _ u e2
      ∙ then_is (r.sections read u) _ ((c.0, d.0), z) (then_is (r.all_cases read u) _ c e3 ∙ then_is (r.default read c.1) _ d e4 ∙ then_is (after s.CloseBrace d.1) _ z e5)

  unnested_is : (p : Spot) → variable_word p ≡ None → keyword k.If p ≡ None → keyword k.While p ≡ None → keyword k.For p ≡ None → keyword k.Switch p ≡ None
      → r.statement read p ≡ r.unnested p
  unfolding r.statement
  unnested_is p e1 e2 e3 e4 e5 =
      either_not (variable_word p) _ _ e1 ∙ either_not (keyword k.If p) _ _ e2 ∙ either_not (keyword k.While p) _ _ e3 ∙ either_not (keyword k.For p) _ _ e4
      ∙ either_not (keyword k.Switch p) _ _ e5

  pub break_is : (p q : Spot) → keyword k.Break p ≡ Some q → r.statement read p ≡ Some (tree.break_loop, q)
  unfolding r.unnested
  break_is p q e =
      unnested_is p (no_variable k.Break p q refl e) (other_keyword k.Break k.If p q (λ z. cc) e) (other_keyword k.Break k.While p q (λ z. cc) e)
      (other_keyword k.Break k.For p q (λ z. cc) e) (other_keyword k.Break k.Switch p q (λ z. cc) e)
      ∙ either_is (keyword k.Break p) _ _ q e

  pub continue_is : (p q : Spot) → keyword k.Continue p ≡ Some q → r.statement read p ≡ Some (tree.continue_loop, q)
  unfolding r.unnested
  continue_is p q e =
      unnested_is p (no_variable k.Continue p q refl e) (other_keyword k.Continue k.If p q (λ z. cc) e) (other_keyword k.Continue k.While p q (λ z. cc) e)
      (other_keyword k.Continue k.For p q (λ z. cc) e) (other_keyword k.Continue k.Switch p q (λ z. cc) e)
      ∙ either_not (keyword k.Break p) _ _ (other_keyword k.Continue k.Break p q (λ z. cc) e) ∙ either_is (keyword k.Continue p) _ _ q e

  return_is : (p q : Spot) → keyword k.Return p ≡ Some q → r.statement read p ≡ r.returned q
  unfolding r.unnested
  return_is p q e =
      unnested_is p (no_variable k.Return p q refl e) (other_keyword k.Return k.If p q (λ z. cc) e) (other_keyword k.Return k.While p q (λ z. cc) e)
      (other_keyword k.Return k.For p q (λ z. cc) e) (other_keyword k.Return k.Switch p q (λ z. cc) e)
      ∙ either_not (keyword k.Break p) _ _ (other_keyword k.Return k.Break p q (λ z. cc) e) ∙ either_not (keyword k.Continue p) _ _ (other_keyword k.Return k.Continue p q (λ z. cc) e)
      ∙ either_is (keyword k.Return p) _ _ q e

  pub return_nothing_is : (p q : Spot) → keyword k.Return p ≡ Some q → value_follows q ≡ false → r.statement read p ≡ Some (tree.return_value None, q)
  unfolding r.returned
  return_nothing_is p q e lacks = return_is p q e ∙ if_not (value_follows q) _ _ lacks

  pub return_value_is : (p q : Spot) (v : ExprTree × Spot) → keyword k.Return p ≡ Some q → value_follows q ≡ true → expression q ≡ Some v
      → r.statement read p ≡ Some (tree.return_value (Some v.0), v.1)
  unfolding r.returned
  return_value_is p q v e holds_so d = return_is p q e ∙ if_is (value_follows q) _ _ holds_so ∙ then_is (expression q) _ v d

  pub emit_is : (p q : Spot) (v : ExprTree × Spot) → keyword k.Emit p ≡ Some q → expression q ≡ Some v → r.statement read p ≡ Some (tree.emit v.0, v.1)
  unfolding r.unnested r.emitted
  emit_is p q v e d =
      unnested_is p (no_variable k.Emit p q refl e) (other_keyword k.Emit k.If p q (λ z. cc) e) (other_keyword k.Emit k.While p q (λ z. cc) e)
      (other_keyword k.Emit k.For p q (λ z. cc) e) (other_keyword k.Emit k.Switch p q (λ z. cc) e)
      ∙ either_not (keyword k.Break p) _ _ (other_keyword k.Emit k.Break p q (λ z. cc) e) ∙ either_not (keyword k.Continue p) _ _ (other_keyword k.Emit k.Continue p q (λ z. cc) e)
      ∙ either_not (keyword k.Return p) _ _ (other_keyword k.Emit k.Return p q (λ z. cc) e) ∙ either_is (keyword k.Emit p) _ _ q e ∙ then_is (expression q) _ v d

  plain_is : (p : Spot) → 12 ≤ start p → r.statement read p ≡ r.plain p
  unfolding r.unnested
  plain_is p lt =
      unnested_is p (started_no_variable p lt) (started_no_keyword k.If p refl lt) (started_no_keyword k.While p refl lt) (started_no_keyword k.For p refl lt) (started_no_keyword k.Switch p refl lt)
      ∙ either_not (keyword k.Break p) _ _ (started_no_keyword k.Break p refl lt) ∙ either_not (keyword k.Continue p) _ _ (started_no_keyword k.Continue p refl lt)
      ∙ either_not (keyword k.Return p) _ _ (started_no_keyword k.Return p refl lt) ∙ either_not (keyword k.Emit p) _ _ (started_no_keyword k.Emit p refl lt)

  pub assignment_is : (p : Spot) (a v : ExprTree × Spot) (t : Transfer × Spot) → 12 ≤ start p → begins_plainly p ≡ true
      → expression p ≡ Some a → transfer a.1 ≡ Some t → expression t.1 ≡ Some v → r.statement read p ≡ Some (tree.assignment a.0 t.0 v.0, v.1)
  unfolding r.plain
  assignment_is p a v t lt holds_so e1 e2 e3 =
      plain_is p lt ∙ if_is (begins_plainly p) _ _ holds_so ∙ then_is (expression p) _ a e1 ∙ either_is (transfer a.1) _ _ t e2 ∙ then_is (expression t.1) _ v e3

  pub swap_is : (p q : Spot) (a b : ExprTree × Spot) → 12 ≤ start p → begins_plainly p ≡ true
      → expression p ≡ Some a → transfer a.1 ≡ None → after s.Swap a.1 ≡ Some q → expression q ≡ Some b → r.statement read p ≡ Some (tree.swap a.0 b.0, b.1)
  unfolding r.plain
  swap_is p q a b lt holds_so e1 lacks e2 e3 =
      plain_is p lt ∙ if_is (begins_plainly p) _ _ holds_so ∙ then_is (expression p) _ a e1 ∙ either_not (transfer a.1) _ _ lacks ∙ either_is (after s.Swap a.1) _ _ q e2
      ∙ then_is (expression q) _ b e3

  pub expression_is : (p : Spot) (a : ExprTree × Spot) → 12 ≤ start p → begins_plainly p ≡ true
      → expression p ≡ Some a → transfer a.1 ≡ None → after s.Swap a.1 ≡ None → r.statement read p ≡ Some (tree.expression a.0, a.1)
  unfolding r.plain
  expression_is p a lt holds_so e1 lacks lacks_too =
      plain_is p lt ∙ if_is (begins_plainly p) _ _ holds_so ∙ then_is (expression p) _ a e1 ∙ either_not (transfer a.1) _ _ lacks ∙ either_not (after s.Swap a.1) _ _ lacks_too

-- ---- loops

pub statements_end : (item : Reader StmtTree) (turns : ℕ) (found : List StmtTree) (p : Spot) → 0 < turns → ends p ≡ true → r.statements item turns found p ≡ Some (found, p)
unfolding r.statements
statements_end item zero found p lt e = let never : ⊥ = omega (arith, lt) in absurd never
statements_end item (suc turns) found p lt e = if_is (ends p) _ _ e

pub statements_more : (item : Reader StmtTree) (turns : ℕ) (found : List StmtTree) (p q : Spot) (x : StmtTree × Spot) → ends p ≡ false → item p ≡ Some x → parted x.1 ≡ Some q
    → r.statements item (suc turns) found p ≡ r.statements item turns (found ++ x.0 ∷ []) q
unfolding r.statements
statements_more item turns found p q x lacks d e = if_not (ends p) _ _ lacks ∙ then_is (item p) _ x d ∙ then_is (parted x.1) _ q e

pub cases_end : (read : Sort → Reader StmtTree) (turns : ℕ) (found : List CaseTree) (p : Spot) → 0 < turns → keyword k.Case p ≡ None → r.cases read turns found p ≡ Some (found, p)
unfolding r.cases
cases_end read zero found p lt e = let never : ⊥ = omega (arith, lt) in absurd never
cases_end read (suc turns) found p lt e = either_not (keyword k.Case p) _ _ e

pub cases_more : (read : Sort → Reader StmtTree) (turns : ℕ) (found : List CaseTree) (p q : Spot) (x : CaseTree × Spot) → keyword k.Case p ≡ Some q → r.one_case read q ≡ Some x
    → r.cases read (suc turns) found p ≡ r.cases read turns (found ++ x.0 ∷ []) x.1
unfolding r.cases
cases_more read turns found p q x e d = either_is (keyword k.Case p) _ _ q e ∙ then_is (r.one_case read q) _ x d

-- ---- one nesting deeper

pub read_deep : (p : Spot) (x : StmtTree × Spot) (depth : ℕ) → p.left < depth → ((d : ℕ) → p.left ≤ d → r.statement (r.read d) p ≡ Some x) → r.read depth a_statement p ≡ Some x
unfolding r.read
read_deep p x zero lt h = let never : ⊥ = omega (arith, lt) in absurd never
read_deep p x (suc d) lt h = h d (omega (arith, lt))

pub if_deep : (p q : Spot) (x : StmtTree × Spot) (depth : ℕ) → p.left < depth → keyword k.If p ≡ Some q → ((d : ℕ) → p.left ≤ d → r.conditional (r.read d) q ≡ Some x)
    → r.read depth an_if p ≡ Some x
unfolding r.read r.whole_if
if_deep p q x zero lt e h = let never : ⊥ = omega (arith, lt) in absurd never
if_deep p q x (suc d) lt e h = then_is (keyword k.If p) _ q e ∙ h d (omega (arith, lt))

-- one spot stands behind a keyword
pub same_conditional : (depth : ℕ) (p q u : Spot) (x : StmtTree × Spot) → keyword k.If p ≡ Some q → keyword k.If p ≡ Some u → r.conditional (r.read depth) u ≡ Some x → r.conditional (r.read depth) q ≡ Some x
same_conditional depth p q u x e f d = ap (r.conditional (r.read depth)) (some_same q u (sym e ∙ f)) ∙ d
