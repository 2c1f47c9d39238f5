use Rattle.std.proofs.Common.{rules, arith, map, ◌≡◌, ◌+◌, ◌∙◌, [], ap, refl, sym}
use Rattle.std.specs.Prelude.{option_map, Ok, Err}
use Rattle.cad_grammar.specs.Trees.{StmtTree, stmts_of, cases_of, default, else_if, no_default}
use Rattle.cad_grammar.specs.Views.{stmt_of, otherwise_of, case_of, expr_of, test_of}
use Rattle.cad_declarations.specs.Views.{block_of, statement_of}
use Rattle.cad_environment.specs.Views.{environment_of, local_of, typing_of}
use Rattle.cad_typing.specs.StatementForms.{switch_typing}
use Rattle.cad_typing.specs.Statements.{block_in, count, count_all, count_cases, empty_block, type_cases, type_otherwise, type_statement, type_statements}
use Rattle.cad_statement_parts.specs.Blocks.{continued, first_inside, for_scope, inner, numbered, test_scope}
use Rattle.cad_statement_parts.specs.Views.{judged_at, surroundings_of}
use Rattle.cad_statement_trees.specs.Views.{blocks_in, for_typing_of, statement_typing_of, switch_typing_of, test_typing_of}
use Rattle.cad_statement_forms.specs.Found.{number_of}
use Rattle.cad_statement_parts.proofs.Told.{on_ok}
use Rattle.cad_statements.proofs.Arms.{for_at, if_at, pair_at, stop_at, switch_none, switch_some, while_at}
use Rattle.cad_statements.proofs.Forms.{for_form, if_form, switch_form, while_form}
use Rattle.cad_statements.proofs.Found.{on_one, on_two}
use Rattle.cad_statements.proofs.Turns.{block_counts, block_law, block_stops, block_turn, block_typed, cases_count, cases_law, cases_stop, cases_turn, cases_typed, lone_form}
use Rattle.cad_statements.proofs.statements.+typing.Goals as goal

-- ---- forms

pub judge_statement-returns-in_ok-x-in-If : goal.judge_statement-returns-in_ok-x-in-If
judge_statement-returns-in_ok-x-in-If t c =
    let x = c.in_ok-x-in-If.x in
    on_two {Q = λ o. judged_at statement_typing_of o ≡ numbered (c.args.at + count (stmt_of c.args.statement.now)) (type_statement (surroundings_of c.args.w) c.args.at (stmt_of c.args.statement.now))} c.if_found.result c.judge_then-a.result c.judge_otherwise-b.result number_of c.next_number.result c.if_found.ensures c.judge_then-a.ensures c.judge_otherwise-b.ensures c.next_number.ensures
    (λ o a b told inside second next. if_form test_typing_of x (surroundings_of c.args.w) c.args.at (test_of c.in-If.test) (stmts_of (map stmt_of c.deref.result.now)) (otherwise_of c.in-If.otherwise)
    (first_inside c.args.at x) (test_scope (option_map test_typing_of x)) block_of a c.next_number.result (judged_at block_of b) (judged_at statement_typing_of o)
    c.in_ok-x-in-If.ensures refl refl inside next second told
    ∙ ap (λ (s : StmtTree). numbered (c.args.at + count s) (type_statement (surroundings_of c.args.w) c.args.at s))
    (sym (if_at c.args.statement.now c.in-If.test c.in-If.then c.in-If.otherwise c.deref.result.now c.deref.ensures.value c.in-If.is)))

pub judge_statement-returns-in_ok-x-in-While : goal.judge_statement-returns-in_ok-x-in-While
judge_statement-returns-in_ok-x-in-While t c =
    let x = c.in_ok-x-in-While.x in
    on_one {Q = λ o. judged_at statement_typing_of o ≡ numbered (c.args.at + count (stmt_of c.args.statement.now)) (type_statement (surroundings_of c.args.w) c.args.at (stmt_of c.args.statement.now))} c.while_found.result c.judge_while-a.result c.while_found.ensures c.judge_while-a.ensures
    (λ o a told inside. while_form typing_of x (surroundings_of c.args.w) (surroundings_of c.in_loop.result) c.args.at (expr_of c.in-While.test) (stmts_of (map stmt_of c.deref-in-While.result.now))
    (first_inside c.args.at x) block_of a (judged_at statement_typing_of o) c.in_ok-x-in-While.ensures refl c.in_loop.ensures inside told
    ∙ ap (λ (s : StmtTree). numbered (c.args.at + count s) (type_statement (surroundings_of c.args.w) c.args.at s))
    (sym (while_at c.args.statement.now c.in-While.test c.in-While.body c.deref-in-While.result.now c.deref-in-While.ensures.value c.in-While.is)))

pub judge_statement-returns-in_ok-x-in-For : goal.judge_statement-returns-in_ok-x-in-For
judge_statement-returns-in_ok-x-in-For t c =
    let x = c.in_ok-x-in-For.x in
    on_one {Q = λ o. judged_at statement_typing_of o ≡ numbered (c.args.at + count (stmt_of c.args.statement.now)) (type_statement (surroundings_of c.args.w) c.args.at (stmt_of c.args.statement.now))} c.for_found.result c.judge_for-a.result c.for_found.ensures c.judge_for-a.ensures
    (λ o a told inside. for_form for_typing_of x (surroundings_of c.args.w) (surroundings_of c.in_loop-in-For.result) c.args.at c.in-For.index c.in-For.name (expr_of c.in-For.array) (stmts_of (map stmt_of c.deref-in-For.result.now))
    (first_inside c.args.at x) (for_scope (option_map for_typing_of x)) block_of a (judged_at statement_typing_of o) c.in_ok-x-in-For.ensures refl refl c.in_loop-in-For.ensures inside told
    ∙ ap (λ (s : StmtTree). numbered (c.args.at + count s) (type_statement (surroundings_of c.args.w) c.args.at s))
    (sym (for_at c.args.statement.now c.in-For.index c.in-For.name c.in-For.array c.in-For.body c.deref-in-For.result.now c.deref-in-For.ensures.value c.in-For.is)))

pub judge_statement-returns-in-None : goal.judge_statement-returns-in-None
judge_statement-returns-in-None t c =
    let x = c.in_ok-x-in-Switch.x in
    let cases = c.deref-in-Switch-2.result.now in
    on_two {Q = λ o. judged_at statement_typing_of o ≡ numbered (c.args.at + count (stmt_of c.args.statement.now)) (type_statement (surroundings_of c.args.w) c.args.at (stmt_of c.args.statement.now))} {PB = λ b. judged_at block_of b ≡ continued c.next_number-in-None.result (λ n. numbered (n + 0) (empty_block (surroundings_of c.in_switch-inside.result)))} c.switch_found.result c.judge_cases-a.result (Ok c.empty_block-b.result) number_of c.next_number-in-None.result c.switch_found.ensures c.judge_cases-a.ensures c.empty_block-b.ensures c.next_number-in-None.ensures
    (λ o a b told inside second next. switch_form switch_typing_of x (surroundings_of c.args.w) (surroundings_of c.in_switch-inside.result) c.args.at (expr_of c.in-Switch.value) (cases_of (map case_of cases)) (no_default)
    (first_inside c.args.at x) blocks_in a c.next_number-in-None.result (judged_at block_of b) (judged_at statement_typing_of o)
    (c.in_ok-x-in-Switch.ensures ∙ ap (λ z. switch_typing (environment_of c.args.w.env) (expr_of c.in-Switch.value) (cases_of (map case_of z))) (c.deref-in-Switch.ensures.value ∙ sym c.deref-in-Switch-2.ensures.value))
    refl c.in_switch-inside.ensures inside next second told
    ∙ ap (λ (s : StmtTree). numbered (c.args.at + count s) (type_statement (surroundings_of c.args.w) c.args.at s))
    (sym (switch_none c.args.statement.now c.in-Switch.value c.in-Switch.cases c.in-Switch.default cases c.deref-in-Switch-2.ensures.value c.in-None.is c.in-Switch.is)))

pub judge_statement-returns-in-Some : goal.judge_statement-returns-in-Some
judge_statement-returns-in-Some t c =
    let x = c.in_ok-x-in-Switch.x in
    let cases = c.deref-in-Switch-2.result.now in
    on_two {Q = λ o. judged_at statement_typing_of o ≡ numbered (c.args.at + count (stmt_of c.args.statement.now)) (type_statement (surroundings_of c.args.w) c.args.at (stmt_of c.args.statement.now))} c.switch_found-in-Some.result c.judge_cases-a.result c.judge_block-b.result number_of c.next_number-in-Some.result c.switch_found-in-Some.ensures c.judge_cases-a.ensures c.judge_block-b.ensures c.next_number-in-Some.ensures
    (λ o a b told inside second next. switch_form switch_typing_of x (surroundings_of c.args.w) (surroundings_of c.in_switch-inside.result) c.args.at (expr_of c.in-Switch.value) (cases_of (map case_of cases)) (default (stmts_of (map stmt_of c.deref-in-Some.result.now)))
    (first_inside c.args.at x) blocks_in a c.next_number-in-Some.result (judged_at block_of b) (judged_at statement_typing_of o)
    (c.in_ok-x-in-Switch.ensures ∙ ap (λ z. switch_typing (environment_of c.args.w.env) (expr_of c.in-Switch.value) (cases_of (map case_of z))) (c.deref-in-Switch.ensures.value ∙ sym c.deref-in-Switch-2.ensures.value))
    refl c.in_switch-inside.ensures inside next second told
    ∙ ap (λ (s : StmtTree). numbered (c.args.at + count s) (type_statement (surroundings_of c.args.w) c.args.at s))
    (sym (switch_some c.args.statement.now c.in-Switch.value c.in-Switch.cases c.in-Switch.default c.in-Some.last cases c.deref-in-Some.result.now c.deref-in-Switch-2.ensures.value c.deref-in-Some.ensures.value c.in-Some.is c.in-Switch.is)))

pub judge_lone-returns : goal.judge_lone-returns
judge_lone-returns t c =
    on_ok {Q = λ o. judged_at block_of o ≡ numbered (c.args.at + count (stmt_of c.args.statement.now)) (type_otherwise (surroundings_of c.args.w) c.args.at (else_if (stmt_of c.args.statement.now)))} c.lone_block.result
    (λ o h. lone_form (surroundings_of c.args.w) (surroundings_of c.in_ok-outer.outer) (surroundings_of c.within-here.result) c.args.at (stmt_of c.args.statement.now) (judged_at statement_typing_of c.in_ok-x.x) (judged_at block_of o)
    c.in_ok-outer.ensures c.within-here.ensures c.in_ok-x.ensures h)
    c.lone_block.ensures

-- ---- blocks

pub block_from-returns-in-Ok : goal.block_from-returns-in-Ok
block_from-returns-in-Ok t c =
    block_law (map local_of c.args.locals.now) _ (surroundings_of c.args.w) (surroundings_of c.in_ok-outer.outer) _ c.args.at _ (stmts_of (map stmt_of c.args.all.now)) _ _ _
    c.in_ok-outer.ensures (ap (map statement_of) c.begin-begun.ensures.trees) (ap (map local_of) c.begin-begun.ensures.locals) c.begin-begun.ensures.in_use c.in-Ok.ensures c.block_taken.ensures

pub take_statements-loop-statement-preserved : goal.take_statements-loop-statement-preserved
take_statements-loop-statement-preserved t c =
    let e = rw c.in-Ok.is at c.in_ok-x.ensures in
    let judged : Ok (statement_typing_of c.in-Ok.x, c.in-Ok.behind) ≡ numbered (c.loop-statement.next + count (stmt_of c.statement-item.result)) (type_statement (surroundings_of c.within-here.result) c.loop-statement.next (stmt_of c.statement-item.result)) = cc in
    record {
      typed = block_turn (surroundings_of c.args.outer) _ _ _ _ c.args.all.now c.loop-statement.statement-index c.statement-item.result (search rules) c.statement-item.is
          (statement_typing_of c.in-Ok.x) c.in-Ok.behind _ _ _ _ _ (c.within-here.ensures ∙ ap (λ z. inner (surroundings_of c.args.outer) (map local_of z) c.loop-statement.begun.in_use) c.deref.ensures.value) judged c.in_ok-take_in-in-Ok.ensures.trees c.in_ok-take_in-in-Ok.ensures.locals c.in_ok-take_in-in-Ok.ensures.in_use c.loop-statement.invariant.typed;
      counted = block_counts _ _ c.args.all.now c.loop-statement.statement-index c.statement-item.result (search rules) c.statement-item.is (statement_typing_of c.in-Ok.x) c.in-Ok.behind _ judged c.loop-statement.invariant.counted;
    }

pub take_statements-returns-in-Err : goal.take_statements-returns-in-Err
take_statements-returns-in-Err t c =
    let e = rw c.in-Err.is at c.in_ok-x.ensures in
    let judged : Err c.in-Err.stop ≡ numbered (c.loop-statement.next + count (stmt_of c.statement-item.result)) (type_statement (surroundings_of c.within-here.result) c.loop-statement.next (stmt_of c.statement-item.result)) = cc in
    block_stops (surroundings_of c.args.outer) _ _ _ _ c.args.all.now c.loop-statement.statement-index c.statement-item.result (search rules) c.statement-item.is
    _ _ _ _ (c.within-here.ensures ∙ ap (λ z. inner (surroundings_of c.args.outer) (map local_of z) c.loop-statement.begun.in_use) c.deref.ensures.value) judged c.loop-statement.invariant.typed

pub take_statements-returns : goal.take_statements-returns
take_statements-returns t c =
    block_typed (surroundings_of c.args.outer) _ _ _ c.args.all.now c.loop-statement.statement-index _ _ _ (omega arith) c.loop-statement.invariant.typed c.loop-statement.invariant.counted

-- ---- cases

pub cases_from-returns-in-Ok : goal.cases_from-returns-in-Ok
cases_from-returns-in-Ok t c =
    cases_law _ _ (type_cases (surroundings_of c.args.w) c.args.at (cases_of (map case_of c.args.cases.now))) _ _ (ap (map block_of) c.new-bodies.ensures.items) c.in-Ok.ensures c.bodies_taken.ensures

pub push_bodies-loop-case-preserved : goal.push_bodies-loop-case-preserved
push_bodies-loop-case-preserved t c =
    let judged : Ok (block_of c.in-Ok.body, c.in-Ok.behind) ≡ numbered (c.loop-case.next + count_all (stmts_of (case_of c.case-item.result).body)) (block_in [] (surroundings_of c.args.w) (λ v. type_statements v c.loop-case.next (stmts_of (case_of c.case-item.result).body))) = pair_at block_of _ _ _ _ _ c.in-Ok.is (search rules) (search rules) c.in_ok-body.ensures in
    record {
      typed = cases_turn (surroundings_of c.args.w) _ c.args.cases.now c.loop-case.case-index c.case-item.result (search rules) c.case-item.is (block_of c.in-Ok.body) c.in-Ok.behind _ _ _ judged c.in_ok-push_block-in-Ok.ensures c.loop-case.invariant.typed;
      counted = cases_count (surroundings_of c.args.w) _ c.args.cases.now c.loop-case.case-index c.case-item.result (search rules) c.case-item.is (block_of c.in-Ok.body) c.in-Ok.behind _ judged c.loop-case.invariant.counted;
    }

pub push_bodies-returns-in-Err : goal.push_bodies-returns-in-Err
push_bodies-returns-in-Err t c =
    let judged : Err c.in-Err.stop ≡ numbered (c.loop-case.next + count_all (stmts_of (case_of c.case-item.result).body)) (block_in [] (surroundings_of c.args.w) (λ v. type_statements v c.loop-case.next (stmts_of (case_of c.case-item.result).body))) = stop_at block_of _ _ _ _ c.in-Err.is (search rules) c.in_ok-body.ensures in
    cases_stop (surroundings_of c.args.w) _ c.args.cases.now c.loop-case.case-index c.case-item.result (search rules) c.case-item.is _ _ _ _ judged c.loop-case.invariant.typed

pub push_bodies-returns : goal.push_bodies-returns
push_bodies-returns t c =
    cases_typed (surroundings_of c.args.w) _ c.args.cases.now c.loop-case.case-index _ _ _ (omega arith) c.loop-case.invariant.typed c.loop-case.invariant.counted
