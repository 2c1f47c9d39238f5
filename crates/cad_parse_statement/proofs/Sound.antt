-- What is read is spelled so.
use Rattle.std.proofs.Common.{◌≡◌, ℕ, zero, suc, Bool, true, false, if◌then◌else◌, List, [], ◌∷◌, ◌++◌, length, Option, Some, refl, sym, ◌∙◌, subst, append-nil, append_assoc}
use Rattle.cad_grammar.specs.declared.token.Sign.TheVariants as s
use Rattle.cad_syntax.specs.declared.keyword.Keyword.TheVariants as k
use Rattle.cad_grammar.specs.declared.statement.VariableKind.{VariableKind}
use Rattle.cad_grammar.specs.Trees.{StmtTree, OtherwiseTree, CaseTree, Default}
use Rattle.cad_grammar.specs.Spots.{Spot, after, keyword, opened, opening}
use Rattle.cad_grammar.specs.ExpressionGrammar.{Expression}
use Rattle.cad_grammar.specs.StatementGrammar.{ReadsStmt, ReadsIf, ReadsOtherwise, ReadsCases, ReadsDefault, Block, Statements, variable_word, transfer, begins_plainly, ends, parted, value_follows}
use Rattle.cad_grammar.specs.StatementGrammar as g
use Rattle.cad_parse_type.specs.Code.Reading.{Reader}
use Rattle.cad_parse_type.proofs.TypeLaws.{TypeLaws}
use Rattle.cad_parse_type.proofs.Climbs.{IfFound, then_found, either_found, found_is, found_weaker}
use Rattle.cad_parse_expr.specs.Code.Reading.{expression}
use Rattle.cad_parse_expr.proofs.ExpressionLaws.{ExpressionLaws}
use Rattle.cad_parse_statement.specs.Code.Reading.{Sort, a_statement, an_if}
use Rattle.cad_parse_statement.specs.Code.Reading as r
use Rattle.cad_parse_statement.proofs.PartLaws.{ValuedAs, TestedAs, SecondedAs, LoopsAs, variable_made, loops_sound, named_value_sound, tested_sound, seconded_sound}

if_found : {A : Type 0} (P : A → Type 0) (b : Bool) (x y : Option A) → (b ≡ true → IfFound P x) → (b ≡ false → IfFound P y) → IfFound P (if b then x else y)
if_found P true x y h g = h refl
if_found P false x y h g = g refl

abbrev pub StmtAs : Spot → StmtTree × Spot → Type 0
StmtAs p x = ReadsStmt p x.0 x.1

abbrev pub IfAs : Spot → StmtTree × Spot → Type 0
IfAs p x = ReadsIf p x.0 x.1

abbrev pub OtherwiseAs : Spot → OtherwiseTree × Spot → Type 0
OtherwiseAs p x = ReadsOtherwise p x.0 x.1

abbrev pub DefaultAs : Spot → Default × Spot → Type 0
DefaultAs p x = ReadsDefault p x.0 x.1

abbrev pub BlockAs : Spot → List StmtTree × Spot → Type 0
BlockAs p x = Block p x.0 x.1

-- a statement, or an `if` with what it opened
abbrev pub SortAs : Sort → Spot → StmtTree × Spot → Type 0
SortAs a_statement p x = ReadsStmt p x.0 x.1
SortAs an_if p x = ReadsIf p x.0 x.1

-- what the reader of statements gives, behind those that were found before
abbrev pub StatementsAs : List StmtTree → Spot → List StmtTree × Spot → Type 0
StatementsAs found p x = (all : List StmtTree) × (x.0 ≡ found ++ all) × Statements p all x.1

abbrev pub CasesAs : List CaseTree → Spot → List CaseTree × Spot → Type 0
CasesAs found p x = (all : List CaseTree) × (x.0 ≡ found ++ all) × ReadsCases p all x.1

-- behind the `case` at p
abbrev pub CaseAs : Spot → CaseTree × Spot → Type 0
CaseAs q x = (u : Spot) × (v : Spot) × Expression q x.0.value u × (after s.Colon u ≡ Some v) × Statements v x.0.body x.1

abbrev pub BranchesAs : Spot → (List StmtTree × OtherwiseTree) × Spot → Type 0
BranchesAs p x = (q : Spot) × Block p x.0.0 q × ReadsOtherwise q x.0.1 x.1

abbrev pub SectionsAs : Spot → (List CaseTree × Default) × Spot → Type 0
SectionsAs p x = (q : Spot) × (u : Spot) × ReadsCases p x.0.0 q × ReadsDefault q x.0.1 u × (after s.CloseBrace u ≡ Some x.1)

module _ (types : TypeLaws) (expressions : ExpressionLaws) where
  variable_sound : (p q : Spot) (found : VariableKind) → variable_word p ≡ Some (found, q) → IfFound (StmtAs p) (r.variable found q)
  unfolding r.variable
  variable_sound p q found e =
      let P = StmtAs p in
      then_found P (r.named_value q) _ (λ b e1. then_found P (r.seconded b.1) _ (λ x e2.
      variable_made e (found_is (ValuedAs q) _ b (named_value_sound types expressions q) e1) (found_is (SecondedAs b.1) _ x (seconded_sound types expressions b.1) e2)))

  returned_sound : (p q : Spot) → keyword k.Return p ≡ Some q → IfFound (StmtAs p) (r.returned q)
  unfolding r.returned
  returned_sound p q e =
      let P = StmtAs p in
      if_found P (value_follows q) _ _ (λ yes. then_found P (expression q) _ (λ v e1. g.return_value e yes (expressions.expression_sound q v e1))) (λ no. g.return_nothing e no)

  emitted_sound : (p q : Spot) → keyword k.Emit p ≡ Some q → IfFound (StmtAs p) (r.emitted q)
  unfolding r.emitted
  emitted_sound p q e = then_found (StmtAs p) (expression q) _ (λ v e1. g.emit e (expressions.expression_sound q v e1))

  plain_sound : (p : Spot) → IfFound (StmtAs p) (r.plain p)
  unfolding r.plain
  plain_sound p =
      let P = StmtAs p in
      let by = expressions.expression_sound in
      if_found P (begins_plainly p) _ _ (λ yes. then_found P (expression p) _ (λ a e1. either_found P (transfer a.1) _ _
      (λ t e2. then_found P (expression t.1) _ (λ v e3. g.assignment yes (by p a e1) e2 (by t.1 v e3)))
      (λ no. either_found P (after s.Swap a.1) _ _
      (λ q e2. then_found P (expression q) _ (λ b e3. g.swap yes (by p a e1) e2 (by q b e3)))
      (λ none. g.expression yes (by p a e1) no none)))) (λ _. tt)

  unnested_sound : (p : Spot) → IfFound (StmtAs p) (r.unnested p)
  unfolding r.unnested
  unnested_sound p =
      let P = StmtAs p in
      either_found P (keyword k.Break p) _ _ (λ q e. g.break_loop e) (λ _.
      either_found P (keyword k.Continue p) _ _ (λ q e. g.continue_loop e) (λ _.
      either_found P (keyword k.Return p) _ _ (λ q e. returned_sound p q e) (λ _.
      either_found P (keyword k.Emit p) _ _ (λ q e. emitted_sound p q e) (λ _. plain_sound p))))

  statements_found : (item : Reader StmtTree) → ((p : Spot) → IfFound (StmtAs p) (item p)) → (turns : ℕ) (found : List StmtTree) (p : Spot)
      → IfFound (StatementsAs found p) (r.statements item turns found p)
  unfolding r.statements
  statements_found item h zero found p = tt
  statements_found item h (suc turns) found p =
      let P = StatementsAs found p in
      if_found P (ends p) _ _ (λ e. ([], sym (append-nil found), g.no_statement e)) (λ _.
      then_found P (item p) _ (λ x e1. then_found P (parted x.1) _ (λ q e2.
      found_weaker (StatementsAs (found ++ x.0 ∷ []) q) P _ (λ y w. (x.0 ∷ w.0, w.1 ∙ append_assoc found (x.0 ∷ []) w.0, g.statement (found_is (StmtAs p) (item p) x (h p) e1) e2 w.2))
      (statements_found item h turns (found ++ x.0 ∷ []) q))))

  module _ (read : Sort → Reader StmtTree) (h : (sort : Sort) (p : Spot) → IfFound (SortAs sort p) (read sort p)) where
    pub body_sound : (p : Spot) (x : List StmtTree × Spot) → r.body read p ≡ Some x → Statements p x.0 x.1
    unfolding r.body
    body_sound p x e =
        let w = found_is (StatementsAs [] p) _ x (statements_found (read a_statement) (h a_statement) (length p.tokens) [] p) e in
        subst (λ all. Statements p all x.1) (sym w.1) w.2

    block_found : (p : Spot) → IfFound (BlockAs p) (r.block read p)
    unfolding r.block
    block_found p =
        let P = BlockAs p in
        then_found P (opening s.OpenBrace p) _ (λ q e1. then_found P (r.body read q) _ (λ b e2. then_found P (after s.CloseBrace b.1) _ (λ u e3. g.block e1 (body_sound q b e2) e3)))

    pub block_sound : (p : Spot) (x : List StmtTree × Spot) → r.block read p ≡ Some x → Block p x.0 x.1
    block_sound p x e = found_is (BlockAs p) _ x (block_found p) e

    alternative_sound : (p q : Spot) → keyword k.Else p ≡ Some q → IfFound (OtherwiseAs p) (r.alternative read q)
    unfolding r.alternative
    alternative_sound p q e =
        let P = OtherwiseAs p in
        either_found P (keyword k.If q) _ _
        (λ _ _. then_found P (opened q) _ (λ u e1. then_found P (read an_if u) _ (λ x e2. g.else_if e e1 (found_is (IfAs u) _ x (h an_if u) e2))))
        (λ _. then_found P (r.block read q) _ (λ b e1. g.else_block e (block_sound q b e1)))

    otherwise_sound : (p : Spot) → IfFound (OtherwiseAs p) (r.otherwise read p)
    unfolding r.otherwise
    otherwise_sound p = either_found (OtherwiseAs p) (keyword k.Else p) _ _ (λ q e. alternative_sound p q e) (λ no. g.nothing no)

    branches_sound : (p : Spot) → IfFound (BranchesAs p) (r.branches read p)
    unfolding r.branches
    branches_sound p =
        let P = BranchesAs p in
        then_found P (r.block read p) _ (λ b e1. then_found P (r.otherwise read b.1) _ (λ o e2. (b.1, block_sound p b e1, found_is (OtherwiseAs b.1) _ o (otherwise_sound b.1) e2)))

    conditional_sound : (p q : Spot) → keyword k.If p ≡ Some q → IfFound (IfAs p) (r.conditional read q)
    unfolding r.conditional
    conditional_sound p q e =
        let P = IfAs p in
        then_found P (r.tested q) _ (λ t e1. then_found P (r.branches read t.1) _ (λ b e2.
        let w = found_is (BranchesAs t.1) _ b (branches_sound t.1) e2 in
        g.if_else e (found_is (TestedAs q) _ t (tested_sound types expressions q) e1) w.1 w.2))

    whole_if_sound : (p : Spot) → IfFound (IfAs p) (r.whole_if read p)
    unfolding r.whole_if
    whole_if_sound p = then_found (IfAs p) (keyword k.If p) _ (λ q e. conditional_sound p q e)

    while_sound : (p q : Spot) → keyword k.While p ≡ Some q → IfFound (StmtAs p) (r.while_loop read q)
    unfolding r.while_loop
    while_sound p q e =
        let P = StmtAs p in
        then_found P (expression q) _ (λ v e1. then_found P (r.block read v.1) _ (λ b e2. g.while_loop e (expressions.expression_sound q v e1) (block_sound v.1 b e2)))

    for_sound : (p q : Spot) → keyword k.For p ≡ Some q → IfFound (StmtAs p) (r.for_loop read q)
    unfolding r.for_loop
    for_sound p q e =
        let P = StmtAs p in
        then_found P (r.loops q) _ (λ n e0. then_found P (expression n.1) _ (λ v e1. then_found P (r.block read v.1) _ (λ b e2.
        g.for_loop e (found_is (LoopsAs q) _ n (loops_sound q) e0) (expressions.expression_sound n.1 v e1) (block_sound v.1 b e2))))

    one_case_sound : (q : Spot) → IfFound (CaseAs q) (r.one_case read q)
    unfolding r.one_case
    one_case_sound q =
        let P = CaseAs q in
        then_found P (expression q) _ (λ v e1. then_found P (after s.Colon v.1) _ (λ u e2. then_found P (r.body read u) _ (λ b e3.
        (v.1, u, expressions.expression_sound q v e1, e2, body_sound u b e3))))

    cases_found : (turns : ℕ) (found : List CaseTree) (p : Spot) → IfFound (CasesAs found p) (r.cases read turns found p)
    unfolding r.cases
    cases_found zero found p = tt
    cases_found (suc turns) found p =
        let P = CasesAs found p in
        either_found P (keyword k.Case p) _ _ (λ q e. then_found P (r.one_case read q) _ (λ c e1.
        let w = found_is (CaseAs q) _ c (one_case_sound q) e1 in
        found_weaker (CasesAs (found ++ c.0 ∷ []) c.1) P _ (λ y v. (c.0 ∷ v.0, v.1 ∙ append_assoc found (c.0 ∷ []) v.0, g.case e w.2 w.3 w.4 v.2))
        (cases_found turns (found ++ c.0 ∷ []) c.1))) (λ no. ([], sym (append-nil found), g.no_case no))

    all_cases_sound : (p : Spot) (x : List CaseTree × Spot) → r.all_cases read p ≡ Some x → ReadsCases p x.0 x.1
    unfolding r.all_cases
    all_cases_sound p x e =
        let w = found_is (CasesAs [] p) _ x (cases_found (length p.tokens) [] p) e in
        subst (λ all. ReadsCases p all x.1) (sym w.1) w.2

    default_sound : (p : Spot) → IfFound (DefaultAs p) (r.default read p)
    unfolding r.default
    default_sound p =
        let P = DefaultAs p in
        either_found P (keyword k.Default p) _ _
        (λ q e. then_found P (after s.Colon q) _ (λ u e1. then_found P (r.body read u) _ (λ b e2. g.default e e1 (body_sound u b e2))))
        (λ no. g.no_default no)

    sections_sound : (p : Spot) → IfFound (SectionsAs p) (r.sections read p)
    unfolding r.sections
    sections_sound p =
        let P = SectionsAs p in
        then_found P (r.all_cases read p) _ (λ c e1. then_found P (r.default read c.1) _ (λ d e2. then_found P (after s.CloseBrace d.1) _ (λ q e3.
        (c.1, d.1, all_cases_sound p c e1, found_is (DefaultAs c.1) _ d (default_sound c.1) e2, e3))))

    switch_sound : (p q : Spot) → keyword k.Switch p ≡ Some q → IfFound (StmtAs p) (r.switch read p q)
    unfolding r.switch
    switch_sound p q e =
        let P = StmtAs p in
        then_found P (expression q) _ (λ v e1. then_found P (opening s.OpenBrace v.1) _ (λ u e2. then_found P (r.sections read u) _ (λ x e3.
        let w = found_is (SectionsAs u) _ x (sections_sound u) e3 in
        g.switch e (expressions.expression_sound q v e1) e2 w.2 w.3 w.4)))

    statement_sound : (p : Spot) → IfFound (StmtAs p) (r.statement read p)
    unfolding r.statement
    statement_sound p =
        let P = StmtAs p in
        either_found P (variable_word p) _ _ (λ x e. variable_sound p x.1 x.0 e) (λ _.
        either_found P (keyword k.If p) _ _ (λ q e. then_found P (r.conditional read q) _ (λ x e1. g.conditional (found_is (IfAs p) _ x (conditional_sound p q e) e1))) (λ _.
        either_found P (keyword k.While p) _ _ (λ q e. while_sound p q e) (λ _.
        either_found P (keyword k.For p) _ _ (λ q e. for_sound p q e) (λ _.
        either_found P (keyword k.Switch p) _ _ (λ q e. switch_sound p q e) (λ _. unnested_sound p)))))

  pub read_sound : (depth : ℕ) (sort : Sort) (p : Spot) → IfFound (SortAs sort p) (r.read depth sort p)
  unfolding r.read
  read_sound zero sort p = tt
  read_sound (suc depth) a_statement p = statement_sound (r.read depth) (read_sound depth) p
  read_sound (suc depth) an_if p = whole_if_sound (r.read depth) (read_sound depth) p
