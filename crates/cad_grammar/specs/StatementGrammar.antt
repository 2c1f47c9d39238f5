-- The grammar of statements and blocks. Each part of a statement is an expression or a type by itself.
use Rattle.std.specs.Prelude.{◌≡◌, Bool, true, false, ◌||◌, ◌&&◌, not, List, [], ◌∷◌, Option, Some, None}
use Rattle.cad_grammar.specs.declared.token.Sign.TheVariants as s
use Rattle.cad_syntax.specs.declared.keyword.Keyword.TheVariants as k
use Rattle.cad_grammar.specs.declared.token.TokenKind.{TokenKind}
use Rattle.cad_grammar.specs.declared.token.TokenKind.TheVariants as kind
use Rattle.cad_syntax.specs.declared.text.Name.{Name}
use Rattle.cad_grammar.specs.declared.statement.VariableKind.{VariableKind}
use Rattle.cad_grammar.specs.declared.statement.VariableKind.TheVariants as variable_kind
use Rattle.cad_grammar.specs.declared.statement.Transfer.{Transfer}
use Rattle.cad_grammar.specs.declared.statement.Transfer.TheVariants as transfer_kind
use Rattle.cad_grammar.specs.Trees.{Annotation, ExprTree, TestTree, SecondTree, StmtTree, OtherwiseTree, CaseTree, stmts_of, cases_of, Default}
use Rattle.cad_grammar.specs.Trees as tree
use Rattle.cad_grammar.specs.Spots.{Spot, back, read, holds, either, only_if, after, keyword, name, opened, opening}
use Rattle.cad_grammar.specs.Lists.{Maybe}
use Rattle.cad_grammar.specs.Levels.{begins_expression}
use Rattle.cad_grammar.specs.TypeGrammar.{Annotated}
use Rattle.cad_grammar.specs.ExpressionGrammar.{Expression}

-- `let` or `var`
abbrev pub variable_kind_of : TokenKind → Option VariableKind
variable_kind_of (kind.Keyword k.Let) = Some variable_kind.Let
variable_kind_of (kind.Keyword k.Var) = Some variable_kind.Var
variable_kind_of _ = None

abbrev pub variable_word : Spot → Option (VariableKind × Spot)
variable_word = read variable_kind_of

-- `=`, `<-` or `<-!`
abbrev pub transfer_of : TokenKind → Option Transfer
transfer_of (kind.Sign s.Assign) = Some transfer_kind.Copy
transfer_of (kind.Sign s.Move) = Some transfer_kind.Move
transfer_of (kind.Sign s.ForceMove) = Some transfer_kind.ForceMove
transfer_of _ = None

abbrev pub transfer : Spot → Option (Transfer × Spot)
transfer = read transfer_of

-- With these a statement or a condition doesn't begin.
abbrev pub begins_no_statement : TokenKind → Bool
begins_no_statement (kind.Sign s.OpenBrace) = true
begins_no_statement (kind.Sign s.Minus) = true
begins_no_statement (kind.Sign s.Star) = true
begins_no_statement (kind.Sign s.Ampersand) = true
begins_no_statement (kind.Sign s.Move) = true
begins_no_statement (kind.Sign s.Slash) = true
begins_no_statement _ = false

abbrev pub begins_plainly : Spot → Bool
begins_plainly = holds (λ broken found. not (begins_no_statement found))

-- Statements are over where `}`, `case` or `default` comes next.
abbrev pub ends_statements : TokenKind → Bool
ends_statements (kind.Sign s.CloseBrace) = true
ends_statements (kind.Keyword k.Case) = true
ends_statements (kind.Keyword k.Default) = true
ends_statements _ = false

abbrev pub ends : Spot → Bool
ends = holds (λ broken found. ends_statements found)

abbrev pub breaks_or_ends : Spot → Bool
breaks_or_ends = holds (λ broken found. broken || ends_statements found)

-- Behind a statement: a `;`, which is passed, a line break, or the end of the statements.
unfoldable pub parted : Spot → Option Spot
parted p = either (after s.Semicolon p) Some (only_if (breaks_or_ends p) p)

-- whether an expression may begin with no line break before it
abbrev pub value_follows : Spot → Bool
value_follows = holds (λ broken found. not broken && begins_expression found)

-- ":" TypeAnnotation, or nothing
abbrev pub MaybeAnnotated : Spot → Option Annotation → Spot → Type 0
MaybeAnnotated = Maybe (after s.Colon) Annotated

-- Test = Expression | (let | var) Name [ ":" TypeAnnotation ] Transfer Expression
pub data Tested : Spot → TestTree → Spot → Type 0 where
  expression_test : {p q : Spot} {e : ExprTree} → variable_word p ≡ None → Expression p e q → Tested p (tree.expression_test e) q
  binding : {p q r u v w : Spot} {kind : VariableKind} {n : Name} {a : Option Annotation} {t : Transfer} {e : ExprTree}
      → variable_word p ≡ Some (kind, q) → name q ≡ Some (n, r) → MaybeAnnotated r a u → transfer u ≡ Some (t, v) → Expression v e w
      → Tested p (tree.binding kind n a t e) w

-- [ Transfer Expression ]
pub data Seconded : Spot → Option SecondTree → Spot → Type 0 where
  no_second : {p : Spot} → transfer p ≡ None → Seconded p None p
  second : {p q r : Spot} {t : Transfer} {e : ExprTree}
      → transfer p ≡ Some (t, q) → Expression q e r → Seconded p (Some (record { transfer = t; value = e })) r

-- for [ Name "," ] Name in, behind the `for`
pub data Loops : Spot → Option Name → Name → Spot → Type 0 where
  over : {p q r : Spot} {n : Name} → name p ≡ Some (n, q) → keyword k.In q ≡ Some r → Loops p None n r
  indexed : {p q r u v : Spot} {i n : Name}
      → name p ≡ Some (i, q) → after s.Comma q ≡ Some r → name r ≡ Some (n, u) → keyword k.In u ≡ Some v → Loops p (Some i) n v

mutual
  pub data ReadsStmt : Spot → StmtTree → Spot → Type 0 where
    -- (let | var) Name [ ":" TypeAnnotation ] Transfer Expression [ Transfer Expression ]
    variable : {p q r u v w x : Spot} {kind : VariableKind} {n : Name} {a : Option Annotation} {t : Transfer} {e : ExprTree} {second : Option SecondTree}
        → variable_word p ≡ Some (kind, q) → name q ≡ Some (n, r) → MaybeAnnotated r a u → transfer u ≡ Some (t, v) → Expression v e w
        → Seconded w second x → ReadsStmt p (tree.variable kind n a t e second) x
    -- What its `else if` opened is closed behind the outermost `if`.
    conditional : {p q : Spot} {s : StmtTree} → ReadsIf p s q → ReadsStmt p s (back p q)
    -- while Expression Block
    while_loop : {p q r u : Spot} {e : ExprTree} {body : List StmtTree}
        → keyword k.While p ≡ Some q → Expression q e r → Block r body u → ReadsStmt p (tree.while_loop e (stmts_of body)) u
    -- for [ Name "," ] Name in Expression Block
    for_loop : {p q r u v : Spot} {i : Option Name} {n : Name} {e : ExprTree} {body : List StmtTree}
        → keyword k.For p ≡ Some q → Loops q i n r → Expression r e u → Block u body v → ReadsStmt p (tree.for_loop i n e (stmts_of body)) v
    -- switch Expression "{" Cases [ default ":" Statements ] "}"
    switch : {p q r u v w x : Spot} {e : ExprTree} {cases : List CaseTree} {default : Default}
        → keyword k.Switch p ≡ Some q → Expression q e r → opening s.OpenBrace r ≡ Some u → ReadsCases u cases v → ReadsDefault v default w
        → after s.CloseBrace w ≡ Some x → ReadsStmt p (tree.switch e (cases_of cases) default) (back p x)
    break_loop : {p q : Spot} → keyword k.Break p ≡ Some q → ReadsStmt p tree.break_loop q
    continue_loop : {p q : Spot} → keyword k.Continue p ≡ Some q → ReadsStmt p tree.continue_loop q
    return_nothing : {p q : Spot} → keyword k.Return p ≡ Some q → value_follows q ≡ false → ReadsStmt p (tree.return_value None) q
    return_value : {p q r : Spot} {e : ExprTree}
        → keyword k.Return p ≡ Some q → value_follows q ≡ true → Expression q e r → ReadsStmt p (tree.return_value (Some e)) r
    emit : {p q r : Spot} {e : ExprTree} → keyword k.Emit p ≡ Some q → Expression q e r → ReadsStmt p (tree.emit e) r
    -- Expression Transfer Expression
    assignment : {p q r u : Spot} {a e : ExprTree} {t : Transfer}
        → begins_plainly p ≡ true → Expression p a q → transfer q ≡ Some (t, r) → Expression r e u → ReadsStmt p (tree.assignment a t e) u
    -- Expression "<->" Expression
    swap : {p q r u : Spot} {a b : ExprTree}
        → begins_plainly p ≡ true → Expression p a q → after s.Swap q ≡ Some r → Expression r b u → ReadsStmt p (tree.swap a b) u
    expression : {p q : Spot} {e : ExprTree}
        → begins_plainly p ≡ true → Expression p e q → transfer q ≡ None → after s.Swap q ≡ None → ReadsStmt p (tree.expression e) q

  -- if Test Block [ else ( Block | if-statement ) ]
  pub data ReadsIf : Spot → StmtTree → Spot → Type 0 where
    if_else : {p q r u v : Spot} {test : TestTree} {then : List StmtTree} {otherwise : OtherwiseTree}
        → keyword k.If p ≡ Some q → Tested q test r → Block r then u → ReadsOtherwise u otherwise v
        → ReadsIf p (tree.if_else test (stmts_of then) otherwise) v

  pub data ReadsOtherwise : Spot → OtherwiseTree → Spot → Type 0 where
    nothing : {p : Spot} → keyword k.Else p ≡ None → ReadsOtherwise p tree.nothing p
    else_block : {p q r : Spot} {body : List StmtTree} → keyword k.Else p ≡ Some q → Block q body r → ReadsOtherwise p (tree.else_block (stmts_of body)) r
    else_if : {p q r u : Spot} {s : StmtTree} → keyword k.Else p ≡ Some q → opened q ≡ Some r → ReadsIf r s u → ReadsOtherwise p (tree.else_if s) u

  -- { case Expression ":" Statements }
  pub data ReadsCases : Spot → List CaseTree → Spot → Type 0 where
    no_case : {p : Spot} → keyword k.Case p ≡ None → ReadsCases p [] p
    case : {p q r u v w : Spot} {e : ExprTree} {body : List StmtTree} {cases : List CaseTree}
        → keyword k.Case p ≡ Some q → Expression q e r → after s.Colon r ≡ Some u → Statements u body v → ReadsCases v cases w
        → ReadsCases p (record { value = e; body = body } ∷ cases) w

  -- [ default ":" Statements ]
  pub data ReadsDefault : Spot → Default → Spot → Type 0 where
    no_default : {p : Spot} → keyword k.Default p ≡ None → ReadsDefault p tree.no_default p
    default : {p q r u : Spot} {body : List StmtTree}
        → keyword k.Default p ≡ Some q → after s.Colon q ≡ Some r → Statements r body u → ReadsDefault p (tree.default (stmts_of body)) u

  -- Block = "{" Statements "}"
  pub data Block : Spot → List StmtTree → Spot → Type 0 where
    block : {p q r u : Spot} {body : List StmtTree}
        → opening s.OpenBrace p ≡ Some q → Statements q body r → after s.CloseBrace r ≡ Some u → Block p body (back p u)

  -- Statements stand apart by a line break or `;`, and one `;` may follow the last.
  pub data Statements : Spot → List StmtTree → Spot → Type 0 where
    no_statement : {p : Spot} → ends p ≡ true → Statements p [] p
    statement : {p q r u : Spot} {s : StmtTree} {all : List StmtTree}
        → ReadsStmt p s q → parted q ≡ Some r → Statements r all u → Statements p (s ∷ all) u
