-- The trees of the forms with statements in them, and what is told of a part beside the number behind it.
use Rattle.std.proofs.Common.{◌≡◌, ◌∙◌, ℕ, List, ap, sym, map}
use Rattle.std.specs.Global.{Vec}
use Rattle.std.specs.Prelude.{Option, Some, None, Result, Ok, Err}
use Rattle.cad_syntax.specs.declared.text.Name.{Name}
use Rattle.cad_grammar.specs.Trees as t
use Rattle.cad_grammar.specs.Trees.{OtherwiseTree, StmtTree, CaseTree}
use Rattle.cad_grammar.specs.Views.{stmt_of, otherwise_of, case_of, expr_of, test_of, otherwise_step, stmt_step, case_step}
use Rattle.cad_grammar.specs.declared.expression.Expr.{Expr}
use Rattle.cad_grammar.specs.declared.statement.Stmt.{Stmt, Stmt-F, fold-roll-Stmt}
use Rattle.cad_grammar.specs.declared.statement.Stmt.TheVariants as variant
use Rattle.cad_grammar.specs.declared.statement.Stmt.TheVariants.{rolls-If, rolls-While, rolls-For, rolls-Switch}
use Rattle.cad_grammar.specs.declared.statement.Otherwise.{Otherwise}
use Rattle.cad_grammar.specs.declared.statement.Case.{Case}
use Rattle.cad_grammar.specs.declared.statement.Test.{Test}
use Rattle.cad_statement_parts.specs.Views.{default_in, judged_at}

pub if_at : (s : Stmt) (test : Test) (then : Vec Stmt) (o : Otherwise) (items : List Stmt) → items ≡ then.items → s ≡ variant.If test then o
    → stmt_of s ≡ t.if_else (test_of test) (t.stmts_of (map stmt_of items)) (otherwise_of o)
if_at s test then o items same is =
    ap stmt_of (is ∙ sym (rolls-If test then o)) ∙ fold-roll-Stmt OtherwiseTree StmtTree CaseTree otherwise_step stmt_step case_step (Stmt-F.Stmt::If test then o)
    ∙ ap (λ z. t.if_else (test_of test) (t.stmts_of (map stmt_of z)) (otherwise_of o)) (sym same)

pub while_at : (s : Stmt) (e : Expr) (v : Vec Stmt) (items : List Stmt) → items ≡ v.items → s ≡ variant.While e v
    → stmt_of s ≡ t.while_loop (expr_of e) (t.stmts_of (map stmt_of items))
while_at s e v items same is =
    ap stmt_of (is ∙ sym (rolls-While e v)) ∙ fold-roll-Stmt OtherwiseTree StmtTree CaseTree otherwise_step stmt_step case_step (Stmt-F.While e v)
    ∙ ap (λ z. t.while_loop (expr_of e) (t.stmts_of (map stmt_of z))) (sym same)

pub for_at : (s : Stmt) (i : Option Name) (n : Name) (e : Expr) (v : Vec Stmt) (items : List Stmt) → items ≡ v.items → s ≡ variant.For i n e v
    → stmt_of s ≡ t.for_loop i n (expr_of e) (t.stmts_of (map stmt_of items))
for_at s i n e v items same is =
    ap stmt_of (is ∙ sym (rolls-For i n e v)) ∙ fold-roll-Stmt OtherwiseTree StmtTree CaseTree otherwise_step stmt_step case_step (Stmt-F.For i n e v)
    ∙ ap (λ z. t.for_loop i n (expr_of e) (t.stmts_of (map stmt_of z))) (sym same)

switch_at : (s : Stmt) (e : Expr) (v : Vec Case) (d : Option (Vec Stmt)) → s ≡ variant.Switch e v d
    → stmt_of s ≡ t.switch (expr_of e) (t.cases_of (map case_of v.items)) (default_in d)
switch_at s e v None is =
    ap stmt_of (is ∙ sym (rolls-Switch e v None)) ∙ fold-roll-Stmt OtherwiseTree StmtTree CaseTree otherwise_step stmt_step case_step (Stmt-F.Switch e v None)
switch_at s e v (Some w) is =
    ap stmt_of (is ∙ sym (rolls-Switch e v (Some w))) ∙ fold-roll-Stmt OtherwiseTree StmtTree CaseTree otherwise_step stmt_step case_step (Stmt-F.Switch e v (Some w))

pub switch_none : (s : Stmt) (e : Expr) (v : Vec Case) (d : Option (Vec Stmt)) (cases : List Case) → cases ≡ v.items → d ≡ None → s ≡ variant.Switch e v d
    → stmt_of s ≡ t.switch (expr_of e) (t.cases_of (map case_of cases)) t.no_default
switch_none s e v d cases same none is =
    switch_at s e v d is ∙ ap (λ z. t.switch (expr_of e) (t.cases_of (map case_of v.items)) (default_in z)) none
    ∙ ap (λ z. t.switch (expr_of e) (t.cases_of (map case_of z)) t.no_default) (sym same)

pub switch_some : (s : Stmt) (e : Expr) (v : Vec Case) (d : Option (Vec Stmt)) (w : Vec Stmt) (cases : List Case) (items : List Stmt)
    → cases ≡ v.items → items ≡ w.items → d ≡ Some w → s ≡ variant.Switch e v d
    → stmt_of s ≡ t.switch (expr_of e) (t.cases_of (map case_of cases)) (t.default (t.stmts_of (map stmt_of items)))
switch_some s e v d w cases items same last some is =
    switch_at s e v d is ∙ ap (λ z. t.switch (expr_of e) (t.cases_of (map case_of v.items)) (default_in z)) some
    ∙ ap (λ z. t.switch (expr_of e) (t.cases_of (map case_of z)) (default_in (Some w))) (sym same)
    ∙ ap (λ z. t.switch (expr_of e) (t.cases_of (map case_of cases)) (t.default (t.stmts_of (map stmt_of z)))) (sym last)

-- what is told of a part that is typed, and of one that stops
pub pair_at : {A0 A : Type 0} (view : A0 → A) (f : Result (A0 × ℕ) ℕ) (p : A0 × ℕ) (x : A0) (n : ℕ) (w : Result (A × ℕ) ℕ)
    → f ≡ Ok p → x ≡ p.0 → n ≡ p.1 → judged_at view f ≡ w → Ok (view x, n) ≡ w
pair_at view f p x n w is xs ns h = ap (λ z. Ok (view z, n)) xs ∙ ap (λ z. Ok (view p.0, z)) ns ∙ sym (ap (judged_at view) is) ∙ h

pub stop_at : {A0 A : Type 0} (view : A0 → A) (f : Result (A0 × ℕ) ℕ) (s k : ℕ) (w : Result (A × ℕ) ℕ) → f ≡ Err s → k ≡ s → judged_at view f ≡ w → Err k ≡ w
stop_at view f s k w is same h = ap Err same ∙ sym (ap (judged_at view) is) ∙ h
