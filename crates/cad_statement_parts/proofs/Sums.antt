-- How many statements there are.
use Rattle.std.proofs.Common.{◌≡◌, ◌∙◌, ℕ, suc, ◌+◌, ◌<◌, ◌≤◌, List, length, drop, get_or, map, ap, sym, arith, add-zero}
use Rattle.std.proofs.lemmas.List.{drop_all, length-append}
use Rattle.cad_grammar.specs.Trees as t
use Rattle.cad_grammar.specs.Views.{case_of, stmt_of}
use Rattle.cad_grammar.specs.declared.statement.Case.{Case}
use Rattle.cad_grammar.specs.declared.statement.Stmt.{Stmt}
use Rattle.cad_declarations.specs.Written.{rows_of, rows_of_stmts, rows_of_otherwise, rows_of_cases, rows_of_default}
use Rattle.cad_typing.specs.Statements.{count, count_all, count_otherwise, count_cases}
use Rattle.cad_statement_parts.specs.Blocks.{count_default}
use Rattle.cad_statement_parts.proofs.Rows.{cons_at}

-- ---- forms

pub count_more : (s : t.StmtTree) (rest : t.Stmts) → count_all (t.stmts s rest) ≡ count s + count_all rest
count_more s rest = length-append (rows_of s) (rows_of_stmts rest)

pub count_more_cases : (a : t.ExprTree) (body : t.Stmts) (rest : t.Cases) → count_cases (t.cases a body rest) ≡ count_all body + count_cases rest
count_more_cases a body rest = length-append (rows_of_stmts body) (rows_of_cases rest)

pub count_if : (test : t.TestTree) (body : t.Stmts) (o : t.OtherwiseTree) → count (t.if_else test body o) ≡ suc (count_all body + count_otherwise o)
count_if test body o = ap suc (length-append (rows_of_stmts body) (rows_of_otherwise o))

pub count_switch : (a : t.ExprTree) (all : t.Cases) (o : t.Default) → count (t.switch a all o) ≡ suc (count_cases all + count_default o)
count_switch a all o = ap suc (length-append (rows_of_cases all) (rows_of_default o))

-- ---- rows

-- what stands at an index, before the rest
pub statements_at : (ss : List Stmt) (i : ℕ) (s : Stmt) → i < length ss → s ≡ get_or ss i s
    → t.stmts_of (map stmt_of (drop i ss)) ≡ t.stmts (stmt_of s) (t.stmts_of (map stmt_of (drop (i + 1) ss)))
statements_at ss i s h is = ap (λ z. t.stmts_of (map stmt_of z)) (cons_at ss i s h is)

pub cases_at : (cs : List Case) (i : ℕ) (c : Case) → i < length cs → c ≡ get_or cs i c
    → t.cases_of (map case_of (drop i cs)) ≡ t.cases (case_of c).value (t.stmts_of (case_of c).body) (t.cases_of (map case_of (drop (i + 1) cs)))
cases_at cs i c h is = ap (λ z. t.cases_of (map case_of z)) (cons_at cs i c h is)

-- ---- turns

summed : (all a b total more whole : ℕ) → all ≡ a + b → more ≡ total + a → total + all ≡ whole → more + b ≡ whole
summed all a b total more whole split sum so_far = omega arith

-- a number with what is left, behind a statement
pub sum_turn : (ss : List Stmt) (i : ℕ) (s : Stmt) → i < length ss → s ≡ get_or ss i s → (total more whole : ℕ)
    → more ≡ total + count (stmt_of s) → total + count_all (t.stmts_of (map stmt_of (drop i ss))) ≡ whole
    → more + count_all (t.stmts_of (map stmt_of (drop (i + 1) ss))) ≡ whole
sum_turn ss i s h is total more whole sum so_far =
    summed (count_all (t.stmts_of (map stmt_of (drop i ss)))) (count (stmt_of s)) (count_all (t.stmts_of (map stmt_of (drop (i + 1) ss)))) total more whole
    (ap count_all (statements_at ss i s h is) ∙ count_more (stmt_of s) (t.stmts_of (map stmt_of (drop (i + 1) ss)))) sum so_far

-- the same behind a case
pub sum_turn_cases : (cs : List Case) (i : ℕ) (c : Case) → i < length cs → c ≡ get_or cs i c → (total more whole : ℕ)
    → more ≡ total + count_all (t.stmts_of (case_of c).body) → total + count_cases (t.cases_of (map case_of (drop i cs))) ≡ whole
    → more + count_cases (t.cases_of (map case_of (drop (i + 1) cs))) ≡ whole
sum_turn_cases cs i c h is total more whole sum so_far =
    summed (count_cases (t.cases_of (map case_of (drop i cs)))) (count_all (t.stmts_of (case_of c).body)) (count_cases (t.cases_of (map case_of (drop (i + 1) cs)))) total more whole
    (ap count_cases (cases_at cs i c h is) ∙ count_more_cases (case_of c).value (t.stmts_of (case_of c).body) (t.cases_of (map case_of (drop (i + 1) cs)))) sum so_far

pub sum_ends : (ss : List Stmt) (i total whole : ℕ) → length ss ≤ i → total + count_all (t.stmts_of (map stmt_of (drop i ss))) ≡ whole → total ≡ whole
sum_ends ss i total whole h so_far =
    sym (add-zero total) ∙ ap (λ z. total + count_all (t.stmts_of (map stmt_of z))) (sym (drop_all i ss h)) ∙ so_far

pub sum_ends_cases : (cs : List Case) (i total whole : ℕ) → length cs ≤ i → total + count_cases (t.cases_of (map case_of (drop i cs))) ≡ whole → total ≡ whole
sum_ends_cases cs i total whole h so_far =
    sym (add-zero total) ∙ ap (λ z. total + count_cases (t.cases_of (map case_of z))) (sym (drop_all i cs h)) ∙ so_far
