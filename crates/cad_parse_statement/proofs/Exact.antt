-- What is spelled is read.
use Rattle.std.proofs.Common.{◌≡◌, ℕ, zero, suc, ◌<◌, ◌≤◌, List, [], ◌∷◌, ◌++◌, length, Some, None, refl, sym, ap, ◌∙◌, arith, append-nil, append_assoc}
use Rattle.cad_grammar.specs.declared.token.Sign.TheVariants as s
use Rattle.cad_syntax.specs.declared.keyword.Keyword.TheVariants as k
use Rattle.cad_grammar.specs.Trees.{StmtTree, OtherwiseTree, CaseTree, Default}
use Rattle.cad_grammar.specs.Spots.{Spot, after, keyword, opening}
use Rattle.cad_parse_type.specs.Code.Levels.{token_strength}
use Rattle.cad_grammar.specs.StatementGrammar.{ReadsStmt, ReadsIf, ReadsOtherwise, ReadsCases, ReadsDefault, Block, Statements, ends, parted, transfer, transfer_of}
use Rattle.cad_grammar.specs.StatementGrammar as g
use Rattle.cad_parse_type.proofs.TypeLaws.{TypeLaws}
use Rattle.cad_parse_type.proofs.Heads.{after_head, after_shorter, keyword_shorter, keyword_left, after_left, read_not, sign_no_keyword, opening_is, opening_left, opened_is}
use Rattle.cad_parse_expr.proofs.ExpressionLaws.{ExpressionLaws}
use Rattle.cad_parse_statement.specs.Code.Reading.{Sort, a_statement, an_if}
use Rattle.cad_parse_statement.specs.Code.Reading as r
use Rattle.cad_parse_statement.proofs.PartLaws.{valued}
use Rattle.cad_parse_statement.proofs.Facts.{sign_weak, transfer_weak, ends_some, begins_no_end, tested_left, loops_left, seconded_weak, stmt_shorter, stmt_left, stmt_begins, block_left, statements_left, cases_left, statements_short, default_short, parted_short, parted_left, parted_weak}
use Rattle.cad_parse_statement.proofs.Steps as steps

opening_after : (p q : Spot) → opening s.OpenBrace p ≡ Some q → (u : Spot) × (after s.OpenBrace p ≡ Some u)
opening_after p q o = let w = opening_is s.OpenBrace p q o in (w.0, w.1)

-- a block begins with a sign after which nothing goes on
block_head : {p q : Spot} {all : List StmtTree} → Block p all q → (u : Spot) × (after s.OpenBrace p ≡ Some u)
block_head {p} (g.block {q = q} o b c) = let w = opening_after p q o in (w.0, w.1)

block_weak : {p q : Spot} {all : List StmtTree} → Block p all q → token_strength p ≡ 0
block_weak {p} d = let w = block_head d in sign_weak s.OpenBrace p w.0 (λ b. refl) w.1

block_no_if : {p q : Spot} {all : List StmtTree} → Block p all q → keyword k.If p ≡ None
block_no_if {p} d = let w = block_head d in sign_no_keyword k.If s.OpenBrace p (after_head s.OpenBrace p w.0 w.1)

module _ (types : TypeLaws) (expressions : ExpressionLaws) where
  mutual
    -- a statement, where nothing follows that goes on after an expression
    pub statement_exact : {p q : Spot} {x : StmtTree} → ReadsStmt p x q → (depth : ℕ) → p.left ≤ depth → token_strength q ≡ 0 → r.statement (r.read depth) p ≡ Some (x, q)
    statement_exact {p} {q = z} (g.variable {q = q} {w = w} {kind = found} {n = n} {a = a} {t = t} {e = v} {second = x} e0 e1 e2 e3 e4 d) depth le st =
        steps.variable_is (r.read depth) p (found, q) (record { name = n; annotation = a; transfer = t; value = v }, w) (x, z) e0
        (steps.named_value_exact types expressions (valued e1 e2 e3 e4) (seconded_weak types expressions d st)) (steps.seconded_exact types expressions d st)
    statement_exact {p} (g.conditional {q = z} {s = x} d) depth le st =
        let w = if_exact d depth le in steps.if_stmt_is (r.read depth) p w.0 (x, z) w.1 w.2
    statement_exact {p} {q = z} (g.while_loop {q = q} {r = u} {e = v} {body = body} e d b) depth le st =
        steps.while_is (r.read depth) p q (v, u) (body, z) e (expressions.expression_exact d (block_weak b))
        (block_exact b depth (omega (arith, le, keyword_left _ _ _ e, expressions.expression_left d)))
    statement_exact {p} {q = z} (g.for_loop {q = q} {r = w} {u = u} {i = i} {n = n} {e = v} {body = body} e l d b) depth le st =
        steps.for_is (r.read depth) p q ((i, n), w) (v, u) (body, z) e (steps.loops_exact l) (expressions.expression_exact d (block_weak b))
        (block_exact b depth (omega (arith, le, keyword_left _ _ _ e, loops_left l, expressions.expression_left d)))
    statement_exact {p} (g.switch {q = q} {r = w} {u = u} {v = v} {w = y} {x = z} {e = e} {cases = all} {default = other} e0 e1 e2 c d e3) depth le st =
        let below : u.left < depth = omega (arith, le, keyword_left _ _ _ e0, expressions.expression_left e1, opening_left _ _ _ e2) in
        steps.switch_is (r.read depth) p q u z (e, w) (all, v) (other, y) e0 (expressions.expression_exact e1 (sign_weak s.OpenBrace w _ (λ b. refl) (opening_after w u e2).1)) e2
        (steps.all_cases_is (r.read depth) u (all, v) (cases_exact c (omega (arith, default_short types expressions d, after_shorter _ _ _ e3)) depth below (length u.tokens) (omega arith) []))
        (default_exact d depth (omega (arith, below, cases_left types expressions c))) e3
    statement_exact {p} {q = z} (g.break_loop e) depth le st = steps.break_is (r.read depth) p z e
    statement_exact {p} {q = z} (g.continue_loop e) depth le st = steps.continue_is (r.read depth) p z e
    statement_exact {p} {q = z} (g.return_nothing e lacks) depth le st = steps.return_nothing_is (r.read depth) p z e lacks
    statement_exact {p} {q = z} (g.return_value {q = q} {e = v} e holds_so d) depth le st = steps.return_value_is (r.read depth) p q (v, z) e holds_so (expressions.expression_exact d st)
    statement_exact {p} {q = z} (g.emit {q = q} {e = v} e d) depth le st = steps.emit_is (r.read depth) p q (v, z) e (expressions.expression_exact d st)
    statement_exact {p} {q = z} (g.assignment {q = q} {r = w} {a = a} {e = v} {t = t} holds_so d e f) depth le st =
        steps.assignment_is (r.read depth) p (a, q) (v, z) (t, w) (expressions.expression_starts d) holds_so (expressions.expression_exact d (transfer_weak q (t, w) e)) e (expressions.expression_exact f st)
    statement_exact {p} {q = z} (g.swap {q = q} {r = w} {a = a} {b = b} holds_so d e f) depth le st =
        steps.swap_is (r.read depth) p w (a, q) (b, z) (expressions.expression_starts d) holds_so (expressions.expression_exact d (sign_weak s.Swap q w (λ c. refl) e))
        (read_not transfer_of q _ (after_head s.Swap q w e) refl) e (expressions.expression_exact f st)
    statement_exact {p} {q = z} (g.expression {e = a} holds_so d lacks lacks_too) depth le st =
        steps.expression_is (r.read depth) p (a, z) (expressions.expression_starts d) holds_so (expressions.expression_exact d st) lacks lacks_too

    if_exact : {p q : Spot} {x : StmtTree} → ReadsIf p x q → (depth : ℕ) → p.left ≤ depth
        → (u : Spot) × (keyword k.If p ≡ Some u) × (r.conditional (r.read depth) u ≡ Some (x, q))
    if_exact {p} {q = z} (g.if_else {q = q} {r = w} {u = u} {test = test} {then = body} {otherwise = other} e t b o) depth le =
        let below : w.left ≤ depth = omega (arith, le, keyword_left _ _ _ e, tested_left types expressions t) in (
          q,
          e,
          steps.conditional_is (r.read depth) q (test, w) (body, u) (other, z) (steps.tested_exact types expressions t (block_weak b)) (block_exact b depth below)
              (otherwise_exact o depth (omega (arith, below, block_left types expressions b))),
        )

    otherwise_exact : {p q : Spot} {x : OtherwiseTree} → ReadsOtherwise p x q → (depth : ℕ) → p.left ≤ depth → r.otherwise (r.read depth) p ≡ Some (x, q)
    otherwise_exact {p} (g.nothing lacks) depth le = steps.nothing_is (r.read depth) p lacks
    otherwise_exact {p} {q = z} (g.else_block {q = q} {body = body} e b) depth le =
        steps.else_block_is (r.read depth) p q (body, z) e (block_no_if b) (block_exact b depth (omega (arith, le, keyword_left _ _ _ e)))
    otherwise_exact {p} {q = z} (g.else_if {q = q} {r = u} {s = x} e o d) depth le =
        let below : u.left < depth = omega (arith, le, keyword_left _ _ _ e, (opened_is _ _ o).0) in
        let w = if_exact d u.left (omega arith) in
        let v = steps.opened_keyword k.If q u w.0 o w.1 in
        steps.else_if_is (r.read depth) p q u v.0 (x, z) e v.1 o
        (steps.if_deep u w.0 (x, z) depth below w.1 (λ n ln. let y = if_exact d n ln in steps.same_conditional n u w.0 y.0 (x, z) w.1 y.1 y.2))

    pub block_exact : {p q : Spot} {all : List StmtTree} → Block p all q → (depth : ℕ) → p.left ≤ depth → r.block (r.read depth) p ≡ Some (all, q)
    block_exact {p} (g.block {q = q} {r = w} {u = u} {body = all} o b c) depth le =
        steps.block_is (r.read depth) p q u (all, w) o (steps.body_is (r.read depth) q (all, w) (statements_exact b depth (omega (arith, le, opening_left _ _ _ o)) (length q.tokens) (omega arith) [])) c

    statements_exact : {p q : Spot} {all : List StmtTree} → Statements p all q → (depth : ℕ) → p.left < depth → (turns : ℕ) → length p.tokens ≤ turns → (found : List StmtTree)
        → r.statements (r.read depth a_statement) turns found p ≡ Some (found ++ all, q)
    statements_exact {p} (g.no_statement e) depth lt turns le found =
        steps.statements_end (r.read depth a_statement) turns found p (omega (arith, le, ends_some p e)) e ∙ ap (λ z. Some (z, p)) (sym (append-nil found))
    statements_exact {p} {q = z} (g.statement {q = q} {r = w} {s = x} {all = all} d e f) depth lt zero le found = let never : ⊥ = omega (arith, le, stmt_shorter types expressions d) in absurd never
    statements_exact {p} {q = z} (g.statement {q = q} {r = w} {s = x} {all = all} d e f) depth lt (suc turns) le found =
        steps.statements_more (r.read depth a_statement) turns found p w (x, q) (begins_no_end p (stmt_begins types expressions d))
        (steps.read_deep p (x, q) depth lt (λ n ln. statement_exact d n ln (parted_weak types expressions q e f))) e
        ∙ statements_exact f depth (omega (arith, lt, stmt_left types expressions d, parted_left _ _ e)) turns (omega (arith, le, stmt_shorter types expressions d, parted_short _ _ e)) (found ++ x ∷ [])
        ∙ ap (λ y. Some (y, z)) (append_assoc found (x ∷ []) all)

    cases_exact : {p q : Spot} {all : List CaseTree} → ReadsCases p all q → 0 < length q.tokens → (depth : ℕ) → p.left < depth → (turns : ℕ) → length p.tokens ≤ turns → (found : List CaseTree)
        → r.cases (r.read depth) turns found p ≡ Some (found ++ all, q)
    cases_exact {p} (g.no_case lacks) more depth lt turns le found =
        steps.cases_end (r.read depth) turns found p (omega (arith, le, more)) lacks ∙ ap (λ z. Some (z, p)) (sym (append-nil found))
    cases_exact {p} {q = z} (g.case {q = q} {r = w} {u = u} {v = v} {e = e} {body = body} {cases = all} e0 e1 e2 b f) more depth lt zero le found =
        let never : ⊥ = omega (arith, le, keyword_shorter _ _ _ e0) in absurd never
    cases_exact {p} {q = z} (g.case {q = q} {r = w} {u = u} {v = v} {e = e} {body = body} {cases = all} e0 e1 e2 b f) more depth lt (suc turns) le found =
        let below : u.left < depth = omega (arith, lt, keyword_left _ _ _ e0, expressions.expression_left e1, after_left _ _ _ e2) in
        steps.cases_more (r.read depth) turns found p q (record { value = e; body = body }, v) e0
        (steps.one_case_is (r.read depth) q u (e, w) (body, v) (expressions.expression_exact e1 (sign_weak s.Colon w u (λ c. refl) e2)) e2 (steps.body_is (r.read depth) u (body, v) (statements_exact b depth below (length u.tokens) (omega arith) [])))
        ∙ cases_exact f more depth (omega (arith, below, statements_left types expressions b)) turns
        (omega (arith, le, keyword_shorter _ _ _ e0, expressions.expression_shorter e1, after_shorter _ _ _ e2, statements_short types expressions b)) (found ++ (record { value = e; body = body }) ∷ [])
        ∙ ap (λ y. Some (y, z)) (append_assoc found ((record { value = e; body = body }) ∷ []) all)

    default_exact : {p q : Spot} {x : Default} → ReadsDefault p x q → (depth : ℕ) → p.left < depth → r.default (r.read depth) p ≡ Some (x, q)
    default_exact {p} (g.no_default lacks) depth lt = steps.no_default_is (r.read depth) p lacks
    default_exact {p} {q = z} (g.default {q = q} {r = u} {body = body} e0 e1 b) depth lt =
        steps.default_is (r.read depth) p q u (body, z) e0 e1 (steps.body_is (r.read depth) u (body, z) (statements_exact b depth (omega (arith, lt, keyword_left _ _ _ e0, after_left _ _ _ e1)) (length u.tokens) (omega arith) []))

  pub body_exact : {p q : Spot} {all : List StmtTree} → Statements p all q → (depth : ℕ) → p.left < depth → r.body (r.read depth) p ≡ Some (all, q)
  body_exact {p} {q} {all} d depth lt = steps.body_is (r.read depth) p (all, q) (statements_exact d depth lt (length p.tokens) (omega arith) [])
