-- Statements with statements in them, by their parts.
use Rattle.std.proofs.Common.{◌≡◌, ◌∙◌, ℕ, suc, ◌+◌, [], List, ap, sym, arith}
use Rattle.std.specs.Prelude.{Option, option_map, Result, Ok, ok_or}
use Rattle.cad_grammar.specs.Trees as t
use Rattle.cad_syntax.specs.declared.text.Name.{Name}
use Rattle.cad_declarations.specs.Typed as e
use Rattle.cad_typing.specs.Environments.{Local, Typing}
use Rattle.cad_typing.specs.StatementForms.{ForTyping, StatementTyping, SwitchTyping, TestTyping, alone, cases_with, for_tree, for_typing, infer_test, switch_typing, test_tree, test_typing}
use Rattle.cad_typing.specs.Statements.{◌>>=◌, Surroundings, block_in, count, count_all, count_cases, count_otherwise, in_loop, in_switch, type_cases, type_default, type_otherwise, type_statement, type_statements}
use Rattle.cad_statement_parts.specs.Blocks.{count_default, first_inside, for_scope, number_behind, numbered, test_scope}
use Rattle.cad_statement_parts.specs.Views.{judged_at}
use Rattle.cad_statement_parts.proofs.Sums.{count_if, count_switch}
use Rattle.cad_statements.proofs.Numbers.{one_part, two_parts}

both : (n k l c : ℕ) → c ≡ suc (k + l) → n + c ≡ suc n + k + l
both n k l c is = omega arith

only : (n k : ℕ) → n + suc k ≡ suc n + k
only n k = omega arith

pub if_form : {X0 A0 : Type 0} (see : X0 → TestTyping) (x : Option X0) (w : Surroundings) (n : ℕ) (test : t.TestTree) (body : t.Stmts) (o : t.OtherwiseTree)
    (first : Result ℕ ℕ) (ls : List Local) (view : A0 → e.BlockTree) (a : Result (A0 × ℕ) ℕ) (m : Result ℕ ℕ) (b : Result (e.BlockTree × ℕ) ℕ) (r : Result (StatementTyping × ℕ) ℕ)
    → option_map see x ≡ test_typing w.env test → first ≡ first_inside n x → ls ≡ test_scope (option_map see x)
    → judged_at view a ≡ (first >>= (λ i. numbered (i + count_all body) (block_in ls w (λ v. type_statements v i body))))
    → m ≡ number_behind a → b ≡ (m >>= (λ i. numbered (i + count_otherwise o) (type_otherwise w i o)))
    → r ≡ (ok_or (option_map see x) n >>= (λ v. judged_at view a >>= (λ y. b >>= (λ z. Ok (alone (test_tree w.env n v y.0 z.0), z.1)))))
    → r ≡ numbered (n + count (t.if_else test body o)) (type_statement w n (t.if_else test body o))
if_form see x w n test body o first ls view a m b r parts begins scope inside next second then =
    two_parts see x (test_typing w.env test) n first view a m b
    (λ v i. block_in (test_scope v) w (λ u. type_statements u i body)) (count_all body)
    (λ i. type_otherwise w i o) (count_otherwise o)
    (λ v y z. alone (test_tree w.env n v y z)) r (n + count (t.if_else test body o))
    parts begins (inside ∙ ap (λ ls. first >>= (λ i. numbered (i + count_all body) (block_in ls w (λ v. type_statements v i body)))) scope) next second then
    (both n (count_all body) (count_otherwise o) (count (t.if_else test body o)) (count_if test body o))

pub while_form : {X0 A0 : Type 0} (see : X0 → Typing) (x : Option X0) (w inside_loop : Surroundings) (n : ℕ) (test : t.ExprTree) (body : t.Stmts)
    (first : Result ℕ ℕ) (view : A0 → e.BlockTree) (a : Result (A0 × ℕ) ℕ) (r : Result (StatementTyping × ℕ) ℕ)
    → option_map see x ≡ infer_test w.env test → first ≡ first_inside n x → inside_loop ≡ in_loop w
    → judged_at view a ≡ (first >>= (λ i. numbered (i + count_all body) (block_in [] inside_loop (λ v. type_statements v i body))))
    → r ≡ (ok_or (option_map see x) n >>= (λ v. judged_at view a >>= (λ y. Ok (alone (e.while_loop n v.term y.0), y.1))))
    → r ≡ numbered (n + count (t.while_loop test body)) (type_statement w n (t.while_loop test body))
while_form see x w inside_loop n test body first view a r parts begins loop inside then =
    one_part see x (infer_test w.env test) n first view a
    (λ v i. block_in [] (in_loop w) (λ u. type_statements u i body)) (count_all body)
    (λ v y. alone (e.while_loop n v.term y)) r (n + count (t.while_loop test body))
    parts begins (inside ∙ ap (λ v. first >>= (λ i. numbered (i + count_all body) (block_in [] v (λ v. type_statements v i body)))) loop) then
    (only n (count_all body))

pub for_form : {X0 A0 : Type 0} (see : X0 → ForTyping) (x : Option X0) (w inside_loop : Surroundings) (n : ℕ) (index : Option Name) (name : Name) (array : t.ExprTree) (body : t.Stmts)
    (first : Result ℕ ℕ) (ls : List Local) (view : A0 → e.BlockTree) (a : Result (A0 × ℕ) ℕ) (r : Result (StatementTyping × ℕ) ℕ)
    → option_map see x ≡ for_typing w.env index name array → first ≡ first_inside n x → ls ≡ for_scope (option_map see x) → inside_loop ≡ in_loop w
    → judged_at view a ≡ (first >>= (λ i. numbered (i + count_all body) (block_in ls inside_loop (λ v. type_statements v i body))))
    → r ≡ (ok_or (option_map see x) n >>= (λ v. judged_at view a >>= (λ y. Ok (alone (for_tree w.env n v y.0), y.1))))
    → r ≡ numbered (n + count (t.for_loop index name array body)) (type_statement w n (t.for_loop index name array body))
for_form see x w inside_loop n index name array body first ls view a r parts begins scope loop inside then =
    one_part see x (for_typing w.env index name array) n first view a
    (λ v i. block_in (for_scope v) (in_loop w) (λ u. type_statements u i body)) (count_all body)
    (λ v y. alone (for_tree w.env n v y)) r (n + count (t.for_loop index name array body))
    parts begins
    (inside ∙ ap (λ ls. first >>= (λ i. numbered (i + count_all body) (block_in ls inside_loop (λ v. type_statements v i body)))) scope
    ∙ ap (λ v. first >>= (λ i. numbered (i + count_all body) (block_in (for_scope (option_map see x)) v (λ v. type_statements v i body)))) loop)
    then (only n (count_all body))

pub switch_form : {X0 A0 : Type 0} (see : X0 → SwitchTyping) (x : Option X0) (w inside_switch : Surroundings) (n : ℕ) (value : t.ExprTree) (all : t.Cases) (o : t.Default)
    (first : Result ℕ ℕ) (view : A0 → List e.BlockTree) (a : Result (A0 × ℕ) ℕ) (m : Result ℕ ℕ) (b : Result (e.BlockTree × ℕ) ℕ) (r : Result (StatementTyping × ℕ) ℕ)
    → option_map see x ≡ switch_typing w.env value all → first ≡ first_inside n x → inside_switch ≡ in_switch w
    → judged_at view a ≡ (first >>= (λ i. numbered (i + count_cases all) (type_cases inside_switch i all)))
    → m ≡ number_behind a → b ≡ (m >>= (λ i. numbered (i + count_default o) (type_default inside_switch i o)))
    → r ≡ (ok_or (option_map see x) n >>= (λ v. judged_at view a >>= (λ y. b >>= (λ z. Ok (alone (e.switch n v.value (cases_with v.cases y.0) z.0), z.1)))))
    → r ≡ numbered (n + count (t.switch value all o)) (type_statement w n (t.switch value all o))
switch_form see x w inside_switch n value all o first view a m b r parts begins switch inside next second then =
    two_parts see x (switch_typing w.env value all) n first view a m b
    (λ v i. type_cases (in_switch w) i all) (count_cases all)
    (λ i. type_default (in_switch w) i o) (count_default o)
    (λ v y z. alone (e.switch n v.value (cases_with v.cases y) z)) r (n + count (t.switch value all o))
    parts begins (inside ∙ ap (λ v. first >>= (λ i. numbered (i + count_cases all) (type_cases v i all))) switch) next
    (second ∙ ap (λ v. m >>= (λ i. numbered (i + count_default o) (type_default v i o))) switch) then
    (both n (count_cases all) (count_default o) (count (t.switch value all o)) (count_switch value all o))
