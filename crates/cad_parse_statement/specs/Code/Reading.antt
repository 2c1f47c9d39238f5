-- Reading statements as a function of the spot.
use Rattle.std.specs.Prelude.{ℕ, zero, suc, if◌then◌else◌, List, [], ◌∷◌, ◌++◌, length, Option, Some, None}
use Rattle.cad_grammar.specs.declared.token.Sign.TheVariants as s
use Rattle.cad_syntax.specs.declared.keyword.Keyword.TheVariants as k
use Rattle.cad_syntax.specs.declared.text.Name.{Name}
use Rattle.cad_grammar.specs.declared.statement.VariableKind.{VariableKind}
use Rattle.cad_grammar.specs.declared.statement.Transfer.{Transfer}
use Rattle.cad_grammar.specs.Trees.{Annotation, ExprTree, TestTree, SecondTree, StmtTree, OtherwiseTree, CaseTree, stmts_of, cases_of, Default}
use Rattle.cad_grammar.specs.Trees as tree
use Rattle.cad_grammar.specs.Spots.{Spot, back, ◌>>=◌, either, after, keyword, name, opened, opening}
use Rattle.cad_grammar.specs.StatementGrammar.{variable_word, transfer, begins_plainly, ends, parted, value_follows}
use Rattle.cad_parse_type.specs.Code.Reading.{Reader, maybe, annotation}
use Rattle.cad_parse_expr.specs.Code.Reading.{expression}

-- ":" TypeAnnotation, or nothing
unfoldable pub maybe_annotated : Reader (Option Annotation)
maybe_annotated = maybe (after s.Colon) annotation

-- Name [ ":" TypeAnnotation ] Transfer Expression
pub record NamedValue : Type 0 where
  pub name : Name
  pub annotation : Option Annotation
  pub transfer : Transfer
  pub value : ExprTree

-- behind `let` or `var`
unfoldable pub named_value : Reader NamedValue
named_value p = do
  n ← name p
  a ← maybe_annotated n.1
  t ← transfer a.1
  e ← expression t.1
  Some (record { name = n.0; annotation = a.0; transfer = t.0; value = e.0 }, e.1)

abbrev pub binding : VariableKind → NamedValue → TestTree
binding kind b = tree.binding kind b.name b.annotation b.transfer b.value

unfoldable pub tested : Reader TestTree
tested p = either (variable_word p) (λ x. named_value x.1 >>= (λ b. Some (binding x.0 b.0, b.1)))
    (expression p >>= (λ e. Some (tree.expression_test e.0, e.1)))

-- a second transfer, or nothing
unfoldable pub seconded : Reader (Option SecondTree)
seconded p = either (transfer p) (λ t. expression t.1 >>= (λ e. Some (Some (record { transfer = t.0; value = e.0 }), e.1))) (Some (None, p))

-- behind `let` or `var`
unfoldable pub variable : VariableKind → Reader StmtTree
variable kind p = do
  b ← named_value p
  x ← seconded b.1
  Some (tree.variable kind b.0.name b.0.annotation b.0.transfer b.0.value x.0, x.1)

-- the names of a `for`, up to the `in`
unfoldable pub loops : Reader (Option Name × Name)
loops p = do
  n ← name p
  either (after s.Comma n.1) (λ q. do
    m ← name q
    r ← keyword k.In m.1
    Some ((Some n.0, m.0), r)) (do
      r ← keyword k.In n.1
      Some ((None, n.0), r))

-- behind `return`
unfoldable pub returned : Reader StmtTree
returned p = if value_follows p then expression p >>= (λ e. Some (tree.return_value (Some e.0), e.1)) else Some (tree.return_value None, p)

-- behind `emit`
unfoldable pub emitted : Reader StmtTree
emitted p = expression p >>= (λ e. Some (tree.emit e.0, e.1))

-- a statement that begins with an expression
unfoldable pub plain : Reader StmtTree
plain p = if begins_plainly p then (do
  a ← expression p
  either (transfer a.1) (λ t. expression t.1 >>= (λ e. Some (tree.assignment a.0 t.0 e.0, e.1)))
      (either (after s.Swap a.1) (λ q. expression q >>= (λ b. Some (tree.swap a.0 b.0, b.1)))
      (Some (tree.expression a.0, a.1)))) else None

-- a statement in which no statements stand, and that doesn't begin with `let` or `var`
unfoldable pub unnested : Reader StmtTree
unnested p = either (keyword k.Break p) (λ q. Some (tree.break_loop, q))
    (either (keyword k.Continue p) (λ q. Some (tree.continue_loop, q))
    (either (keyword k.Return p) returned
    (either (keyword k.Emit p) emitted
    (plain p))))

-- statements up to where they end
unfoldable pub statements : Reader StmtTree → ℕ → List StmtTree → Reader (List StmtTree)
statements item zero found p = None
statements item (suc turns) found p = if ends p then Some (found, p) else (do
  x ← item p
  q ← parted x.1
  statements item turns (found ++ x.0 ∷ []) q)

-- a statement, or an `if` with what it opened
pub data Sort : Type 0 where
  a_statement : Sort
  an_if : Sort

-- the productions, over the reader of what stands one nesting deeper
module _ (read : Sort → Reader StmtTree) where
  unfoldable pub body : Reader (List StmtTree)
  body p = statements (read a_statement) (length p.tokens) [] p

  unfoldable pub block : Reader (List StmtTree)
  block p = do
    q ← opening s.OpenBrace p
    b ← body q
    r ← after s.CloseBrace b.1
    Some (b.0, back p r)

  -- behind `else`
  unfoldable pub alternative : Reader OtherwiseTree
  alternative p = either (keyword k.If p) (λ q. do
    r ← opened p
    x ← read an_if r
    Some (tree.else_if x.0, x.1)) (do
      b ← block p
      Some (tree.else_block (stmts_of b.0), b.1))

  unfoldable pub otherwise : Reader OtherwiseTree
  otherwise p = either (keyword k.Else p) alternative (Some (tree.nothing, p))

  -- the block behind a test, and what is done otherwise
  unfoldable pub branches : Reader (List StmtTree × OtherwiseTree)
  branches p = do
    b ← block p
    o ← otherwise b.1
    Some ((b.0, o.0), o.1)

  -- behind `if`
  unfoldable pub conditional : Reader StmtTree
  conditional p = do
    t ← tested p
    b ← branches t.1
    Some (tree.if_else t.0 (stmts_of b.0.0) b.0.1, b.1)

  unfoldable pub whole_if : Reader StmtTree
  whole_if p = keyword k.If p >>= conditional

  -- behind `while`
  unfoldable pub while_loop : Reader StmtTree
  while_loop p = do
    e ← expression p
    b ← block e.1
    Some (tree.while_loop e.0 (stmts_of b.0), b.1)

  -- behind `for`
  unfoldable pub for_loop : Reader StmtTree
  for_loop p = do
    n ← loops p
    e ← expression n.1
    b ← block e.1
    Some (tree.for_loop n.0.0 n.0.1 e.0 (stmts_of b.0), b.1)

  -- behind `case`
  unfoldable pub one_case : Reader CaseTree
  one_case p = do
    e ← expression p
    q ← after s.Colon e.1
    b ← body q
    Some (record { value = e.0; body = b.0 }, b.1)

  unfoldable pub cases : ℕ → List CaseTree → Reader (List CaseTree)
  cases zero found p = None
  cases (suc turns) found p = either (keyword k.Case p) (λ q. do
    c ← one_case q
    cases turns (found ++ c.0 ∷ []) c.1) (Some (found, p))

  unfoldable pub all_cases : Reader (List CaseTree)
  all_cases p = cases (length p.tokens) [] p

  unfoldable pub default : Reader Default
  default p = either (keyword k.Default p) (λ q. do
    r ← after s.Colon q
    b ← body r
    Some (tree.default (stmts_of b.0), b.1)) (Some (tree.no_default, p))

  -- behind the `{` of a `switch`, up to its `}`
  unfoldable pub sections : Reader (List CaseTree × Default)
  sections p = do
    c ← all_cases p
    d ← default c.1
    q ← after s.CloseBrace d.1
    Some ((c.0, d.0), q)

  -- behind the `switch` at p
  unfoldable pub switch : Spot → Reader StmtTree
  switch p q = do
    e ← expression q
    r ← opening s.OpenBrace e.1
    x ← sections r
    Some (tree.switch e.0 (cases_of x.0.0) x.0.1, back p x.1)

  unfoldable pub statement : Reader StmtTree
  statement p = either (variable_word p) (λ x. variable x.0 x.1)
      (either (keyword k.If p) (λ q. conditional q >>= (λ x. Some (x.0, back p x.1)))
      (either (keyword k.While p) while_loop
      (either (keyword k.For p) for_loop
      (either (keyword k.Switch p) (switch p)
      (unnested p)))))

-- the number bounds how deep the reader calls itself
unfoldable pub read : ℕ → Sort → Reader StmtTree
read zero sort p = None
read (suc depth) a_statement p = statement (read depth) p
read (suc depth) an_if p = whole_if (read depth) p

-- statements up to where they end
unfoldable pub statements_in : Reader (List StmtTree)
statements_in p = body (read (suc p.left)) p

unfoldable pub block_in : Reader (List StmtTree)
block_in p = block (read (suc p.left)) p
