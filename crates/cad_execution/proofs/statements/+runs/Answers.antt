use Rattle.cad_declarations.specs.Typed.{arguments_of, block, cases_of, statements_of}
use Rattle.cad_declarations.specs.Views.{argument_of, block_of, case_of, place_of, return_of, statement_of, term_of, variable_of}
use Rattle.cad_evaluation.specs.Statements.{exec}
use Rattle.cad_expressions.specs.Passed.{tree_in}
use Rattle.cad_labels.specs.Laws.{HasNoneInRow}
use Rattle.cad_outcomes.specs.Outcomes.{Gives}
use Rattle.cad_outcomes.specs.declared.stop.Stop.{Stop}
use Rattle.cad_outcomes.specs.declared.stop.Stop.TheVariants.{Limit}
use Rattle.cad_rows.specs.Views.{as_row, pure_place, pure_tree}
use Rattle.cad_rows.specs.declared.tree.Tree.{Tree}
use Rattle.cad_state.specs.Views.{FindsAndCarriesOut}
use Rattle.cad_statement_leaves.proofs.Choosing.{case_block, case_err, cases_done, cases_end, cases_go, cast_err, cast_none, cast_some, chosen_run, chosen_stop, else_ok, if_err, if_ok, let_err, let_none, let_some, switch_err, switch_none, switch_some, while_ok, while_stop}
use Rattle.cad_statement_leaves.proofs.Elements.{all_turned, counted_err, counted_ok, counter_err, counter_ok, element_err, element_none, element_some, first_none, for_err, for_ok, next_turn, no_turn, others_none, place_err, place_ok, run_ended}
use Rattle.cad_statement_leaves.proofs.FlowLaws.{all_done, all_ends, all_goes, block_err, block_ok, over_err, over_ok, turn_err, turn_ok, turns_left, while_done, while_ends, while_err, while_goes, while_over, with_err, with_ok}
use Rattle.cad_statement_leaves.proofs.PlainLaws.{at_fails, at_form}
use Rattle.cad_statement_leaves.proofs.Steps.{Fails}
use Rattle.cad_statement_leaves.proofs.Trees.{assign_at, block_at, break_at, case_at, continue_at, declare_at, emit_at, exchange_at, expression_at, for_at, force_assign_at, if_at, if_cast_at, if_let_at, return_at, swap_at, switch_at, while_at}
use Rattle.cad_statement_leaves.specs.Views.{flow_of}
use Rattle.cad_syntax.specs.Types.{pure_type}
use Rattle.std.proofs.Common.{[], ap, arith, drop, map, rules, subst, sym, ◌+◌, ◌-◌, ◌∙◌, ◌∷◌, ◌≡◌}
use Rattle.std.proofs.lemmas.List.{drop_all, nil_from_length}
use Rattle.std.specs.Global.{Box}
use Rattle.std.specs.Prelude.{Err, None, Ok, Result, option_map, suc}
use Rattle.std.specs.Vec.Iter.{into_iter_items}
use Rattle.cad_declarations.specs.Typed as e
use Rattle.cad_statement_leaves.specs.Code.Parts as parts
use Rattle.cad_statement_leaves.specs.declared.flow.Flow.TheVariants as flow
use Rattle.cad_execution.proofs.statements.+runs.Goals as goal

pub exec-returns-in-Declare : goal.exec-returns-in-Declare
exec-returns-in-Declare g t c =
    at_form (g.C.Callees.front c.args.callees.now) (g.C.Callees.calls c.args.callees.now) c.args.turns (statement_of c.args.statement.now) (e.declare c.in-Declare.at (variable_of c.in-Declare.variable) (term_of c.in-Declare.value)) c.args.state.now c.declare.new.state (c.declare.result) (declare_at c.args.statement.now c.in-Declare.at c.in-Declare.variable c.in-Declare.value c.in-Declare.is) (c.declare.ensures c.in-Declare.at c.args.turns)

pub exec-returns-in-Exchange : goal.exec-returns-in-Exchange
exec-returns-in-Exchange g t c =
    at_form (g.C.Callees.front c.args.callees.now) (g.C.Callees.calls c.args.callees.now) c.args.turns (statement_of c.args.statement.now) (e.exchange c.in-Exchange.at (variable_of c.in-Exchange.variable) (place_of c.in-Exchange.place) (pure_type c.in-Exchange.of) (term_of c.in-Exchange.value)) c.args.state.now c.exchange.new.state (c.exchange.result) (exchange_at c.args.statement.now c.in-Exchange.at c.in-Exchange.variable c.in-Exchange.place c.in-Exchange.of c.in-Exchange.value c.in-Exchange.is) (c.exchange.ensures c.in-Exchange.at c.args.turns)

pub exec-returns-in-Assign : goal.exec-returns-in-Assign
exec-returns-in-Assign g t c =
    at_form (g.C.Callees.front c.args.callees.now) (g.C.Callees.calls c.args.callees.now) c.args.turns (statement_of c.args.statement.now) (e.assign c.in-Assign.at (place_of c.in-Assign.place) (term_of c.in-Assign.value.value) (pure_type c.in-Assign.value.target)) c.args.state.now c.assign.new.state (c.assign.result) (assign_at c.args.statement.now c.in-Assign.at c.in-Assign.place c.in-Assign.value c.in-Assign.is) (c.assign.ensures c.in-Assign.at c.args.turns)

pub exec-returns-in-ForceAssign : goal.exec-returns-in-ForceAssign
exec-returns-in-ForceAssign g t c =
    at_form (g.C.Callees.front c.args.callees.now) (g.C.Callees.calls c.args.callees.now) c.args.turns (statement_of c.args.statement.now) (e.force_assign c.in-ForceAssign.at (place_of c.in-ForceAssign.place) (term_of c.in-ForceAssign.value.value) (pure_type c.in-ForceAssign.value.target)) c.args.state.now c.force_assign.new.state (c.force_assign.result) (force_assign_at c.args.statement.now c.in-ForceAssign.at c.in-ForceAssign.place c.in-ForceAssign.value c.in-ForceAssign.is) (c.force_assign.ensures c.in-ForceAssign.at c.args.turns)

pub exec-returns-in-Swap : goal.exec-returns-in-Swap
exec-returns-in-Swap g t c =
    at_form (g.C.Callees.front c.args.callees.now) (g.C.Callees.calls c.args.callees.now) c.args.turns (statement_of c.args.statement.now) (e.swap c.in-Swap.at (place_of c.in-Swap.left) (pure_type c.in-Swap.left_type) (place_of c.in-Swap.right) (pure_type c.in-Swap.right_type)) c.args.state.now c.swap.new.state (c.swap.result) (swap_at c.args.statement.now c.in-Swap.at c.in-Swap.left c.in-Swap.left_type c.in-Swap.right c.in-Swap.right_type c.in-Swap.is) (c.swap.ensures c.in-Swap.at c.args.turns)

pub exec-returns-in-Expression : goal.exec-returns-in-Expression
exec-returns-in-Expression g t c =
    at_form (g.C.Callees.front c.args.callees.now) (g.C.Callees.calls c.args.callees.now) c.args.turns (statement_of c.args.statement.now) (e.expression c.in-Expression.at (term_of c.in-Expression.value)) c.args.state.now c.expression.new.state (c.expression.result) (expression_at c.args.statement.now c.in-Expression.at c.in-Expression.value c.in-Expression.is) (c.expression.ensures c.in-Expression.at c.args.turns)

pub exec-returns-in-Break : goal.exec-returns-in-Break
exec-returns-in-Break g t c =
    at_form (g.C.Callees.front c.args.callees.now) (g.C.Callees.calls c.args.callees.now) c.args.turns (statement_of c.args.statement.now) (e.break_loop c.in-Break.at) c.args.state.now c.break_loop.new.state (c.break_loop.result) (break_at c.args.statement.now c.in-Break.at c.in-Break.is) (c.break_loop.ensures)

pub exec-returns-in-Continue : goal.exec-returns-in-Continue
exec-returns-in-Continue g t c =
    at_form (g.C.Callees.front c.args.callees.now) (g.C.Callees.calls c.args.callees.now) c.args.turns (statement_of c.args.statement.now) (e.continue_loop c.in-Continue.at) c.args.state.now c.continue_loop.new.state (c.continue_loop.result) (continue_at c.args.statement.now c.in-Continue.at c.in-Continue.is) (c.continue_loop.ensures)

pub exec-returns-in-Return : goal.exec-returns-in-Return
exec-returns-in-Return g t c =
    at_form (g.C.Callees.front c.args.callees.now) (g.C.Callees.calls c.args.callees.now) c.args.turns (statement_of c.args.statement.now) (return_of c.in-Return.at c.in-Return.value) c.args.state.now c.return_value.new.state (c.return_value.result) (return_at c.args.statement.now c.in-Return.at c.in-Return.value c.in-Return.is) (c.return_value.ensures c.in-Return.at c.args.turns)

pub exec-returns-in-Emit : goal.exec-returns-in-Emit
exec-returns-in-Emit g t c =
    at_form (g.C.Callees.front c.args.callees.now) (g.C.Callees.calls c.args.callees.now) c.args.turns (statement_of c.args.statement.now) (e.emit c.in-Emit.at c.in-Emit.event (arguments_of (map argument_of c.in-Emit.arguments.items))) c.args.state.now c.emit.new.state (c.emit.result) (emit_at c.args.statement.now c.in-Emit.at c.in-Emit.event c.in-Emit.arguments c.in-Emit.is) (subst (λ all. FindsAndCarriesOut flow_of (exec (g.C.Callees.front c.args.callees.now) (g.C.Callees.calls c.args.callees.now) c.args.turns (e.emit c.in-Emit.at c.in-Emit.event (arguments_of (map argument_of all)))) c.args.state.now c.emit.new.state c.emit.result) c.deref.ensures.value (c.emit.ensures c.in-Emit.at c.args.turns))

pub exec_if-returns-then-is : goal.exec_if-returns-then-is
exec_if-returns-then-is g t c =
    at_form (g.C.Callees.front c.args.callees.now) (g.C.Callees.calls c.args.callees.now) c.args.turns (statement_of c.args.statement.now) (e.if_else c.in-If.at (term_of c.in-If.test) (block_of c.in-If.then) (block_of c.in-If.otherwise)) c.args.state.now c.exec_block.new.state (c.exec_block.result) (if_at c.args.statement.now c.in-If.at c.in-If.test c.in-If.then c.in-If.otherwise c.in-If.is) (if_ok (g.C.Callees.front c.args.callees.now) (g.C.Callees.calls c.args.callees.now) c.in-If.at c.args.turns (term_of c.in-If.test) (block_of c.in-If.then) (block_of c.in-If.otherwise) c.in-Ok.is' c.args.state.now c.first_holds.new.state c.exec_block.new.state c.exec_block.result (g.met.C.Callees.keeps c.args.callees.now) c.in-Ok.ensures c.if-is.true c.exec_block.ensures)

pub exec_if-returns-else-is : goal.exec_if-returns-else-is
exec_if-returns-else-is g t c =
    at_form (g.C.Callees.front c.args.callees.now) (g.C.Callees.calls c.args.callees.now) c.args.turns (statement_of c.args.statement.now) (e.if_else c.in-If.at (term_of c.in-If.test) (block_of c.in-If.then) (block_of c.in-If.otherwise)) c.args.state.now c.exec_block-else-is.new.state (c.exec_block-else-is.result) (if_at c.args.statement.now c.in-If.at c.in-If.test c.in-If.then c.in-If.otherwise c.in-If.is) (else_ok (g.C.Callees.front c.args.callees.now) (g.C.Callees.calls c.args.callees.now) c.in-If.at c.args.turns (term_of c.in-If.test) (block_of c.in-If.then) (block_of c.in-If.otherwise) c.in-Ok.is' c.args.state.now c.first_holds.new.state c.exec_block-else-is.new.state c.exec_block-else-is.result (g.met.C.Callees.keeps c.args.callees.now) c.in-Ok.ensures c.if-is.false c.exec_block-else-is.ensures)

pub exec_if-returns-in-Err : goal.exec_if-returns-in-Err
exec_if-returns-in-Err g t c =
    at_fails (g.C.Callees.front c.args.callees.now) (g.C.Callees.calls c.args.callees.now) c.args.turns (statement_of c.args.statement.now) (e.if_else c.in-If.at (term_of c.in-If.test) (block_of c.in-If.then) (block_of c.in-If.otherwise)) c.args.state.now c.in-Err.stop (if_at c.args.statement.now c.in-If.at c.in-If.test c.in-If.then c.in-If.otherwise c.in-If.is) (if_err (g.C.Callees.front c.args.callees.now) (g.C.Callees.calls c.args.callees.now) c.in-If.at c.args.turns (term_of c.in-If.test) (block_of c.in-If.then) (block_of c.in-If.otherwise) c.args.state.now c.in-Err.stop c.in-Err.ensures)

pub exec_if_let-returns-in-Some : goal.exec_if_let-returns-in-Some
exec_if_let-returns-in-Some g t c =
    at_form (g.C.Callees.front c.args.callees.now) (g.C.Callees.calls c.args.callees.now) c.args.turns (statement_of c.args.statement.now) (e.if_let c.in-IfLet.at (variable_of c.in-IfLet.variable) (term_of c.in-IfLet.value.value) (pure_type c.in-IfLet.value.target) (block_of c.in-IfLet.then) (block_of c.in-IfLet.otherwise)) c.args.state.now c.with_variable.new.state (c.with_variable.result) (if_let_at c.args.statement.now c.in-IfLet.at c.in-IfLet.variable c.in-IfLet.value c.in-IfLet.then c.in-IfLet.otherwise c.in-IfLet.is) (let_some (g.C.Callees.front c.args.callees.now) (g.C.Callees.calls c.args.callees.now) c.in-IfLet.at c.args.turns (variable_of c.in-IfLet.variable) (term_of c.in-IfLet.value.value) (pure_type c.in-IfLet.value.target) (block_of c.in-IfLet.then) (block_of c.in-IfLet.otherwise) c.in-Ok.found c.in-Some.inside c.args.state.now c.unwrap.new.state c.with_variable.new.state c.with_variable.result (g.met.C.Callees.keeps c.args.callees.now) c.in-Ok.ensures c.in-Some.is c.with_variable.ensures)

pub exec_if_let-returns-in-None : goal.exec_if_let-returns-in-None
exec_if_let-returns-in-None g t c =
    at_form (g.C.Callees.front c.args.callees.now) (g.C.Callees.calls c.args.callees.now) c.args.turns (statement_of c.args.statement.now) (e.if_let c.in-IfLet.at (variable_of c.in-IfLet.variable) (term_of c.in-IfLet.value.value) (pure_type c.in-IfLet.value.target) (block_of c.in-IfLet.then) (block_of c.in-IfLet.otherwise)) c.args.state.now c.exec_block.new.state (c.exec_block.result) (if_let_at c.args.statement.now c.in-IfLet.at c.in-IfLet.variable c.in-IfLet.value c.in-IfLet.then c.in-IfLet.otherwise c.in-IfLet.is) (let_none (g.C.Callees.front c.args.callees.now) (g.C.Callees.calls c.args.callees.now) c.in-IfLet.at c.args.turns (variable_of c.in-IfLet.variable) (term_of c.in-IfLet.value.value) (pure_type c.in-IfLet.value.target) (block_of c.in-IfLet.then) (block_of c.in-IfLet.otherwise) c.in-Ok.found c.args.state.now c.unwrap.new.state c.exec_block.new.state c.exec_block.result (g.met.C.Callees.keeps c.args.callees.now) c.in-Ok.ensures c.in-None.is c.exec_block.ensures)

pub exec_if_let-returns-in-Err : goal.exec_if_let-returns-in-Err
exec_if_let-returns-in-Err g t c =
    at_fails (g.C.Callees.front c.args.callees.now) (g.C.Callees.calls c.args.callees.now) c.args.turns (statement_of c.args.statement.now) (e.if_let c.in-IfLet.at (variable_of c.in-IfLet.variable) (term_of c.in-IfLet.value.value) (pure_type c.in-IfLet.value.target) (block_of c.in-IfLet.then) (block_of c.in-IfLet.otherwise)) c.args.state.now c.in-Err.stop (if_let_at c.args.statement.now c.in-IfLet.at c.in-IfLet.variable c.in-IfLet.value c.in-IfLet.then c.in-IfLet.otherwise c.in-IfLet.is) (let_err (g.C.Callees.front c.args.callees.now) (g.C.Callees.calls c.args.callees.now) c.in-IfLet.at c.args.turns (variable_of c.in-IfLet.variable) (term_of c.in-IfLet.value.value) (pure_type c.in-IfLet.value.target) (block_of c.in-IfLet.then) (block_of c.in-IfLet.otherwise) c.args.state.now c.in-Err.stop c.in-Err.ensures)

pub exec_if_cast-returns-in-Some : goal.exec_if_cast-returns-in-Some
exec_if_cast-returns-in-Some g t c =
    at_form (g.C.Callees.front c.args.callees.now) (g.C.Callees.calls c.args.callees.now) c.args.turns (statement_of c.args.statement.now) (e.if_cast c.in-IfCast.at (variable_of c.in-IfCast.variable) (place_of c.in-IfCast.place) (pure_type c.in-IfCast.target) (block_of c.in-IfCast.then) (block_of c.in-IfCast.otherwise)) c.args.state.now c.with_variable.new.state (c.with_variable.result) (if_cast_at c.args.statement.now c.in-IfCast.at c.in-IfCast.variable c.in-IfCast.place c.in-IfCast.target c.in-IfCast.then c.in-IfCast.otherwise c.in-IfCast.is) (cast_some (g.C.Callees.front c.args.callees.now) (g.C.Callees.calls c.args.callees.now) c.in-IfCast.at c.args.turns (variable_of c.in-IfCast.variable) (place_of c.in-IfCast.place) (pure_type c.in-IfCast.target) (block_of c.in-IfCast.then) (block_of c.in-IfCast.otherwise) c.in-Ok.found c.in-Some.inside c.args.state.now c.cast.new.state c.with_variable.new.state c.with_variable.result (g.met.C.Callees.keeps c.args.callees.now) c.in-Ok.ensures c.in-Some.is c.with_variable.ensures)

pub exec_if_cast-returns-in-None : goal.exec_if_cast-returns-in-None
exec_if_cast-returns-in-None g t c =
    at_form (g.C.Callees.front c.args.callees.now) (g.C.Callees.calls c.args.callees.now) c.args.turns (statement_of c.args.statement.now) (e.if_cast c.in-IfCast.at (variable_of c.in-IfCast.variable) (place_of c.in-IfCast.place) (pure_type c.in-IfCast.target) (block_of c.in-IfCast.then) (block_of c.in-IfCast.otherwise)) c.args.state.now c.exec_block.new.state (c.exec_block.result) (if_cast_at c.args.statement.now c.in-IfCast.at c.in-IfCast.variable c.in-IfCast.place c.in-IfCast.target c.in-IfCast.then c.in-IfCast.otherwise c.in-IfCast.is) (cast_none (g.C.Callees.front c.args.callees.now) (g.C.Callees.calls c.args.callees.now) c.in-IfCast.at c.args.turns (variable_of c.in-IfCast.variable) (place_of c.in-IfCast.place) (pure_type c.in-IfCast.target) (block_of c.in-IfCast.then) (block_of c.in-IfCast.otherwise) c.in-Ok.found c.args.state.now c.cast.new.state c.exec_block.new.state c.exec_block.result (g.met.C.Callees.keeps c.args.callees.now) c.in-Ok.ensures c.in-None.is c.exec_block.ensures)

pub exec_if_cast-returns-in-Err : goal.exec_if_cast-returns-in-Err
exec_if_cast-returns-in-Err g t c =
    at_fails (g.C.Callees.front c.args.callees.now) (g.C.Callees.calls c.args.callees.now) c.args.turns (statement_of c.args.statement.now) (e.if_cast c.in-IfCast.at (variable_of c.in-IfCast.variable) (place_of c.in-IfCast.place) (pure_type c.in-IfCast.target) (block_of c.in-IfCast.then) (block_of c.in-IfCast.otherwise)) c.args.state.now c.in-Err.stop (if_cast_at c.args.statement.now c.in-IfCast.at c.in-IfCast.variable c.in-IfCast.place c.in-IfCast.target c.in-IfCast.then c.in-IfCast.otherwise c.in-IfCast.is) (cast_err (g.C.Callees.front c.args.callees.now) (g.C.Callees.calls c.args.callees.now) c.in-IfCast.at c.args.turns (variable_of c.in-IfCast.variable) (place_of c.in-IfCast.place) (pure_type c.in-IfCast.target) (block_of c.in-IfCast.then) (block_of c.in-IfCast.otherwise) c.args.state.now c.in-Err.stop c.in-Err.ensures)

pub exec_while-returns-in-Ok : goal.exec_while-returns-in-Ok
exec_while-returns-in-Ok g t c =
    at_form (g.C.Callees.front c.args.callees.now) (g.C.Callees.calls c.args.callees.now) c.args.turns (statement_of c.args.statement.now) (e.while_loop c.in-While.at (term_of c.in-While.test) (block_of c.in-While.body)) c.args.state.now c.repeat.new.state (c.repeat.result) (while_at c.args.statement.now c.in-While.at c.in-While.test c.in-While.body c.in-While.is) (while_ok (g.C.Callees.front c.args.callees.now) (g.C.Callees.calls c.args.callees.now) c.in-While.at c.args.turns (term_of c.in-While.test) (block_of c.in-While.body) c.args.state.now c.tick.new.self c.repeat.new.state c.repeat.result c.in-Ok.ensures c.repeat.ensures)

pub exec_while-returns-in-Err : goal.exec_while-returns-in-Err
exec_while-returns-in-Err g t c =
    at_fails (g.C.Callees.front c.args.callees.now) (g.C.Callees.calls c.args.callees.now) c.args.turns (statement_of c.args.statement.now) (e.while_loop c.in-While.at (term_of c.in-While.test) (block_of c.in-While.body)) c.args.state.now c.in-Err.stop (while_at c.args.statement.now c.in-While.at c.in-While.test c.in-While.body c.in-While.is) (while_stop (g.C.Callees.front c.args.callees.now) (g.C.Callees.calls c.args.callees.now) c.in-While.at c.args.turns (term_of c.in-While.test) (block_of c.in-While.body) c.args.state.now c.in-Err.stop c.in-Err.ensures)

pub exec_switch-returns-in-Some : goal.exec_switch-returns-in-Some
exec_switch-returns-in-Some g t c =
    at_form (g.C.Callees.front c.args.callees.now) (g.C.Callees.calls c.args.callees.now) c.args.turns (statement_of c.args.statement.now) (e.switch c.in-Switch.at (term_of c.in-Switch.value) (cases_of (map case_of c.in-Switch.cases.items)) (block_of c.in-Switch.default)) c.args.state.now c.exec_chosen.new.state ((Ok c.leave_switch.result)) (switch_at c.args.statement.now c.in-Switch.at c.in-Switch.value c.in-Switch.cases c.in-Switch.default c.in-Switch.is) (switch_some (g.C.Callees.front c.args.callees.now) (g.C.Callees.calls c.args.callees.now) c.in-Switch.at c.args.turns (term_of c.in-Switch.value) (cases_of (map case_of c.in-Switch.cases.items)) (block_of c.in-Switch.default) c.in-Ok.found c.in-Some.flow c.leave_switch.result c.args.state.now c.exec_chosen.new.state (g.met.C.Callees.keeps c.args.callees.now) (subst (λ all. FindsAndCarriesOut (option_map flow_of) (parts.exec_chosen (g.C.Callees.front c.args.callees.now) (g.C.Callees.calls c.args.callees.now) c.args.turns (term_of c.in-Switch.value) (cases_of (map case_of all))) c.args.state.now c.exec_chosen.new.state (Ok c.in-Ok.found)) c.deref.ensures.value c.in-Ok.ensures) c.in-Some.is c.leave_switch.ensures)

pub exec_switch-returns-in-None : goal.exec_switch-returns-in-None
exec_switch-returns-in-None g t c =
    at_form (g.C.Callees.front c.args.callees.now) (g.C.Callees.calls c.args.callees.now) c.args.turns (statement_of c.args.statement.now) (e.switch c.in-Switch.at (term_of c.in-Switch.value) (cases_of (map case_of c.in-Switch.cases.items)) (block_of c.in-Switch.default)) c.args.state.now c.exec_block.new.state (c.leave.result) (switch_at c.args.statement.now c.in-Switch.at c.in-Switch.value c.in-Switch.cases c.in-Switch.default c.in-Switch.is) (switch_none (g.C.Callees.front c.args.callees.now) (g.C.Callees.calls c.args.callees.now) c.in-Switch.at c.args.turns (term_of c.in-Switch.value) (cases_of (map case_of c.in-Switch.cases.items)) (block_of c.in-Switch.default) c.in-Ok.found c.exec_block.result c.leave.result c.args.state.now c.exec_chosen.new.state c.exec_block.new.state (g.met.C.Callees.keeps c.args.callees.now) (subst (λ all. FindsAndCarriesOut (option_map flow_of) (parts.exec_chosen (g.C.Callees.front c.args.callees.now) (g.C.Callees.calls c.args.callees.now) c.args.turns (term_of c.in-Switch.value) (cases_of (map case_of all))) c.args.state.now c.exec_chosen.new.state (Ok c.in-Ok.found)) c.deref.ensures.value c.in-Ok.ensures) c.in-None.is c.exec_block.ensures c.leave.ensures)

pub exec_switch-returns-in-Err : goal.exec_switch-returns-in-Err
exec_switch-returns-in-Err g t c =
    at_fails (g.C.Callees.front c.args.callees.now) (g.C.Callees.calls c.args.callees.now) c.args.turns (statement_of c.args.statement.now) (e.switch c.in-Switch.at (term_of c.in-Switch.value) (cases_of (map case_of c.in-Switch.cases.items)) (block_of c.in-Switch.default)) c.args.state.now c.in-Err.stop (switch_at c.args.statement.now c.in-Switch.at c.in-Switch.value c.in-Switch.cases c.in-Switch.default c.in-Switch.is) (switch_err (g.C.Callees.front c.args.callees.now) (g.C.Callees.calls c.args.callees.now) c.in-Switch.at c.args.turns (term_of c.in-Switch.value) (cases_of (map case_of c.in-Switch.cases.items)) (block_of c.in-Switch.default) c.args.state.now c.in-Err.stop (subst (λ all. Fails (parts.exec_chosen (g.C.Callees.front c.args.callees.now) (g.C.Callees.calls c.args.callees.now) c.args.turns (term_of c.in-Switch.value) (cases_of (map case_of all))) c.args.state.now c.in-Err.stop) c.deref.ensures.value c.in-Err.ensures))

pub exec_block-returns-in-Ok : goal.exec_block-returns-in-Ok
exec_block-returns-in-Ok g t c =
    block_ok (g.C.Callees.front c.args.callees.now) (g.C.Callees.calls c.args.callees.now) c.args.turns (block_of c.args.block.now) c.args.block.now.in_scope (statements_of (map statement_of c.deref.result.now)) c.in-Ok.flow c.args.state.now c.exec_all.new.state c.close.new.state c.close.result (block_at c.args.block.now ∙ ap (λ all. block c.args.block.now.in_scope (statements_of (map statement_of all))) (sym c.deref.ensures.value)) c.in-Ok.ensures c.close.ensures

pub exec_block-returns-in-Err : goal.exec_block-returns-in-Err
exec_block-returns-in-Err g t c =
    block_err (g.C.Callees.front c.args.callees.now) (g.C.Callees.calls c.args.callees.now) c.args.turns (block_of c.args.block.now) c.args.block.now.in_scope (statements_of (map statement_of c.deref.result.now)) c.args.state.now c.in-Err.stop (block_at c.args.block.now ∙ ap (λ all. block c.args.block.now.in_scope (statements_of (map statement_of all))) (sym c.deref.ensures.value)) c.in-Err.ensures

pub run_over-returns-in-Ok : goal.run_over-returns-in-Ok
run_over-returns-in-Ok g t c =
    λ none. over_ok (g.C.Callees.front c.args.callees.now) (g.C.Callees.calls c.args.callees.now) c.args.turns (variable_of c.args.variable.now) (tree_in c.args.value) (block_of c.args.body.now) c.args.state.now c.fill_variable.new.state c.exec_block.new.state c.exec_block.result none c.in-Ok.ensures c.exec_block.ensures

pub run_over-returns-in-Err : goal.run_over-returns-in-Err
run_over-returns-in-Err g t c =
    λ none. over_err (g.C.Callees.front c.args.callees.now) (g.C.Callees.calls c.args.callees.now) c.args.turns (variable_of c.args.variable.now) (tree_in c.args.value) (block_of c.args.body.now) c.args.state.now c.in-Err.stop c.in-Err.ensures

pub with_variable-returns-in-Ok : goal.with_variable-returns-in-Ok
with_variable-returns-in-Ok g t c =
    λ none. with_ok (g.C.Callees.front c.args.callees.now) (g.C.Callees.calls c.args.callees.now) c.args.turns (variable_of c.args.variable.now) (tree_in c.args.value) (block_of c.args.body.now) c.in-Ok.flow c.args.state.now c.run_over.new.state c.close.new.state c.close.result (c.in-Ok.ensures none) c.close.ensures

pub with_variable-returns-in-Err : goal.with_variable-returns-in-Err
with_variable-returns-in-Err g t c =
    λ none. with_err (g.C.Callees.front c.args.callees.now) (g.C.Callees.calls c.args.callees.now) c.args.turns (variable_of c.args.variable.now) (tree_in c.args.value) (block_of c.args.body.now) c.args.state.now c.in-Err.stop (c.in-Err.ensures none)

pub run_turn-returns-in-Ok : goal.run_turn-returns-in-Ok
run_turn-returns-in-Ok g t c =
    turn_ok (g.C.Callees.front c.args.callees.now) (g.C.Callees.calls c.args.callees.now) c.args.turns (block_of c.args.body.now) c.args.state.now c.tick.new.self c.exec_block.new.state c.exec_block.result c.in-Ok.ensures c.exec_block.ensures

pub run_turn-returns-in-Err : goal.run_turn-returns-in-Err
run_turn-returns-in-Err g t c =
    turn_err (g.C.Callees.front c.args.callees.now) (g.C.Callees.calls c.args.callees.now) c.args.turns (block_of c.args.body.now) c.args.state.now c.in-Err.stop c.in-Err.ensures

pub exec_case-returns-then-is : goal.exec_case-returns-then-is
exec_case-returns-then-is g t c =
    let e : case_of c.args.case.now ≡ record { value = (term_of c.args.case.now.value); body = (block_of c.args.case.now.body) } = case_at c.args.case.now in
    subst (λ k. FindsAndCarriesOut (option_map flow_of) (parts.exec_case (g.C.Callees.front c.args.callees.now) (g.C.Callees.calls c.args.callees.now) c.args.turns c.args.nil (pure_tree c.args.value.now) k.value k.body) c.args.state.now c.exec_block.new.state c.case_ran.result) (sym e)
    (case_block (g.C.Callees.front c.args.callees.now) (g.C.Callees.calls c.args.callees.now) c.args.turns c.args.nil (pure_tree c.args.value.now) (term_of c.args.case.now.value) (block_of c.args.case.now.body) c.in-Ok.is' c.exec_block.result c.args.state.now c.is_chosen.new.state c.exec_block.new.state c.case_ran.result (g.met.C.Callees.keeps c.args.callees.now) c.in-Ok.ensures c.if-is.true c.exec_block.ensures c.case_ran.ensures)

pub exec_case-returns-in-Err : goal.exec_case-returns-in-Err
exec_case-returns-in-Err g t c =
    let e : case_of c.args.case.now ≡ record { value = (term_of c.args.case.now.value); body = (block_of c.args.case.now.body) } = case_at c.args.case.now in
    subst (λ k. Fails (parts.exec_case (g.C.Callees.front c.args.callees.now) (g.C.Callees.calls c.args.callees.now) c.args.turns c.args.nil (pure_tree c.args.value.now) k.value k.body) c.args.state.now c.in-Err.stop) (sym e)
    (case_err (g.C.Callees.front c.args.callees.now) (g.C.Callees.calls c.args.callees.now) c.args.turns c.args.nil (pure_tree c.args.value.now) (term_of c.args.case.now.value) (block_of c.args.case.now.body) c.args.state.now c.in-Err.stop c.in-Err.ensures)

pub exec_chosen-returns-in-Ok : goal.exec_chosen-returns-in-Ok
exec_chosen-returns-in-Ok g t c =
    chosen_run (g.C.Callees.front c.args.callees.now) (g.C.Callees.calls c.args.callees.now) c.args.turns c.is_nil.result (term_of c.args.value.now) (cases_of (map case_of c.args.cases.now)) c.in-Ok.tree c.args.state.now c.first_value.new.state c.exec_cases-ran.new.state c.exec_cases-ran.result (g.met.C.Callees.keeps c.args.callees.now) c.is_nil.ensures c.in-Ok.ensures (subst (λ t. FindsAndCarriesOut (option_map flow_of) (parts.exec_cases (g.C.Callees.front c.args.callees.now) (g.C.Callees.calls c.args.callees.now) c.args.turns c.is_nil.result (pure_tree t) (cases_of (map case_of c.args.cases.now))) c.first_value.new.state c.exec_cases-ran.new.state c.exec_cases-ran.result) c.deref.ensures c.exec_cases-ran.ensures)

pub exec_chosen-returns-in-Err : goal.exec_chosen-returns-in-Err
exec_chosen-returns-in-Err g t c =
    chosen_stop (g.C.Callees.front c.args.callees.now) (g.C.Callees.calls c.args.callees.now) c.args.turns (term_of c.args.value.now) (cases_of (map case_of c.args.cases.now)) c.args.state.now c.in-Err.stop c.in-Err.ensures

pub exec_all-returns-in-Some : goal.exec_all-returns-in-Some
exec_all-returns-in-Some g t c =
    c.loop-statement.invariant c.exec.new.state c.in-Some.ran (all_ends (g.C.Callees.front c.args.callees.now) (g.C.Callees.calls c.args.callees.now) c.args.turns c.args.all.now c.loop-statement.statement-index c.statement-item.result c.exec.result c.in-Some.ran c.loop-statement.state c.exec.new.state (search rules) c.statement-item.is (sym c.statement_end.ensures ∙ c.in-Some.is) c.exec.ensures)

pub exec_all-loop-statement-preserved : goal.exec_all-loop-statement-preserved
exec_all-loop-statement-preserved g t c =
    λ z r rest. c.loop-statement.invariant z r (all_goes (g.C.Callees.front c.args.callees.now) (g.C.Callees.calls c.args.callees.now) c.args.turns c.args.all.now c.loop-statement.statement-index c.statement-item.result c.exec.result c.loop-statement.state c.exec.new.state z r (g.met.C.Callees.keeps c.args.callees.now) (search rules) c.statement-item.is (sym c.statement_end.ensures ∙ c.in-None.is) c.exec.ensures rest)

pub exec_all-returns : goal.exec_all-returns
exec_all-returns g t c =
    let n : drop c.loop-statement.statement-index c.args.all.now ≡ [] = drop_all c.loop-statement.statement-index c.args.all.now (omega arith) in c.loop-statement.invariant c.loop-statement.state (Ok flow.Next) (all_done (g.C.Callees.front c.args.callees.now) (g.C.Callees.calls c.args.callees.now) c.args.turns c.args.all.now c.loop-statement.statement-index c.loop-statement.state n)

pub exec_cases-returns-in-Some : goal.exec_cases-returns-in-Some
exec_cases-returns-in-Some g t c =
    c.loop-case.invariant c.exec_case.new.state c.in-Some.ran (cases_end (g.C.Callees.front c.args.callees.now) (g.C.Callees.calls c.args.callees.now) c.args.turns c.args.nil (pure_tree c.args.value.now) c.args.cases.now c.loop-case.case-index c.case-item.result c.exec_case.result c.in-Some.ran c.loop-case.state c.exec_case.new.state (search rules) c.case-item.is (sym c.case_end.ensures ∙ c.in-Some.is) c.exec_case.ensures)

pub exec_cases-loop-case-preserved : goal.exec_cases-loop-case-preserved
exec_cases-loop-case-preserved g t c =
    λ z r rest. c.loop-case.invariant z r (cases_go (g.C.Callees.front c.args.callees.now) (g.C.Callees.calls c.args.callees.now) c.args.turns c.args.nil (pure_tree c.args.value.now) c.args.cases.now c.loop-case.case-index c.case-item.result c.exec_case.result c.loop-case.state c.exec_case.new.state z r (g.met.C.Callees.keeps c.args.callees.now) (search rules) c.case-item.is (sym c.case_end.ensures ∙ c.in-None.is) c.exec_case.ensures rest)

pub exec_cases-returns : goal.exec_cases-returns
exec_cases-returns g t c =
    let n : drop c.loop-case.case-index c.args.cases.now ≡ [] = drop_all c.loop-case.case-index c.args.cases.now (omega arith) in c.loop-case.invariant c.loop-case.state (Ok None) (cases_done (g.C.Callees.front c.args.callees.now) (g.C.Callees.calls c.args.callees.now) c.args.turns c.args.nil (pure_tree c.args.value.now) c.args.cases.now c.loop-case.case-index c.loop-case.state n)

pub repeat-loop-init : goal.repeat-loop-init
repeat-loop-init g t c =
    λ z r rest. subst (λ m. FindsAndCarriesOut flow_of (turns_left (g.C.Callees.front c.args.callees.now) (g.C.Callees.calls c.args.callees.now) c.args.turns (term_of c.args.test.now) (block_of c.args.body.now) m) c.args.state.now z r) (let e : c.args.turns - 0 ≡ c.args.turns = omega arith in e) rest

pub repeat-loop-preserved : goal.repeat-loop-preserved
repeat-loop-preserved g t c =
    λ z r rest. c.loop.invariant z r (while_goes (g.C.Callees.front c.args.callees.now) (g.C.Callees.calls c.args.callees.now) c.args.turns (c.args.turns - c.loop.counter) (c.args.turns - (c.loop.counter + 1)) (term_of c.args.test.now) (block_of c.args.body.now) c.in-Ok.is' c.run_turn.result c.loop.state c.holds.new.state c.run_turn.new.state z r (g.met.C.Callees.keeps c.args.callees.now) (let e : c.args.turns - c.loop.counter ≡ suc (c.args.turns - (c.loop.counter + 1)) = omega arith in e) c.in-Ok.ensures (search rules) c.run_turn.ensures (sym c.turn_end.ensures ∙ c.in-None.is) rest)

pub repeat-returns-in-Some : goal.repeat-returns-in-Some
repeat-returns-in-Some g t c =
    c.loop.invariant c.run_turn.new.state c.in-Some.ran (while_ends (g.C.Callees.front c.args.callees.now) (g.C.Callees.calls c.args.callees.now) c.args.turns (c.args.turns - c.loop.counter) (c.args.turns - (c.loop.counter + 1)) (term_of c.args.test.now) (block_of c.args.body.now) c.in-Ok.is' c.run_turn.result c.in-Some.ran c.loop.state c.holds.new.state c.run_turn.new.state (g.met.C.Callees.keeps c.args.callees.now) (let e : c.args.turns - c.loop.counter ≡ suc (c.args.turns - (c.loop.counter + 1)) = omega arith in e) c.in-Ok.ensures (search rules) c.run_turn.ensures (sym c.turn_end.ensures ∙ c.in-Some.is))

pub repeat-returns-then-not-is : goal.repeat-returns-then-not-is
repeat-returns-then-not-is g t c =
    c.loop.invariant c.holds.new.state (Ok flow.Next) (while_done (g.C.Callees.front c.args.callees.now) (g.C.Callees.calls c.args.callees.now) c.args.turns (c.args.turns - c.loop.counter) (c.args.turns - (c.loop.counter + 1)) (term_of c.args.test.now) (block_of c.args.body.now) c.in-Ok.is' c.loop.state c.holds.new.state (g.met.C.Callees.keeps c.args.callees.now) (let e : c.args.turns - c.loop.counter ≡ suc (c.args.turns - (c.loop.counter + 1)) = omega arith in e) c.in-Ok.ensures (search rules))

pub repeat-returns-in-Err : goal.repeat-returns-in-Err
repeat-returns-in-Err g t c =
    c.loop.invariant c.holds.new.state (Err c.in-Err.stop) (while_err (g.C.Callees.front c.args.callees.now) (g.C.Callees.calls c.args.callees.now) c.args.turns (c.args.turns - c.loop.counter) (c.args.turns - (c.loop.counter + 1)) (term_of c.args.test.now) (block_of c.args.body.now) c.loop.state c.in-Err.stop (let e : c.args.turns - c.loop.counter ≡ suc (c.args.turns - (c.loop.counter + 1)) = omega arith in e) c.in-Err.ensures)

pub repeat-returns : goal.repeat-returns
repeat-returns g t c =
    c.loop.invariant c.loop.state (Err Limit) (while_over (g.C.Callees.front c.args.callees.now) (g.C.Callees.calls c.args.callees.now) c.args.turns (c.args.turns - c.loop.counter) (term_of c.args.test.now) (block_of c.args.body.now) c.loop.state (let e : c.args.turns - c.loop.counter ≡ 0 = omega arith in e))

pub run_counted-returns-in-Ok : goal.run_counted-returns-in-Ok
run_counted-returns-in-Ok g t c =
    λ none. counted_ok (g.C.Callees.front c.args.callees.now) (g.C.Callees.calls c.args.callees.now) c.args.turns (variable_of c.args.index.now) c.args.i (variable_of c.args.variable.now) (tree_in c.args.value) (block_of c.args.body.now) c.args.state.now c.fill_counter.new.state c.with_variable.new.state c.with_variable.result c.in-Ok.ensures (c.with_variable.ensures none)

pub run_counted-returns-in-Err : goal.run_counted-returns-in-Err
run_counted-returns-in-Err g t c =
    λ none. counted_err (g.C.Callees.front c.args.callees.now) (g.C.Callees.calls c.args.callees.now) c.args.turns (variable_of c.args.index.now) c.args.i (variable_of c.args.variable.now) (tree_in c.args.value) (block_of c.args.body.now) c.args.state.now c.in-Err.stop c.in-Err.ensures

pub with_counter-returns-in-Ok : goal.with_counter-returns-in-Ok
with_counter-returns-in-Ok g t c =
    λ none. counter_ok (g.C.Callees.front c.args.callees.now) (g.C.Callees.calls c.args.callees.now) c.args.turns (variable_of c.args.index.now) c.args.i (variable_of c.args.variable.now) (tree_in c.args.value) (block_of c.args.body.now) c.in-Ok.flow c.args.state.now c.run_counted.new.state c.close.new.state c.close.result (c.in-Ok.ensures none) c.close.ensures

pub with_counter-returns-in-Err : goal.with_counter-returns-in-Err
with_counter-returns-in-Err g t c =
    λ none. counter_err (g.C.Callees.front c.args.callees.now) (g.C.Callees.calls c.args.callees.now) c.args.turns (variable_of c.args.index.now) c.args.i (variable_of c.args.variable.now) (tree_in c.args.value) (block_of c.args.body.now) c.args.state.now c.in-Err.stop (c.in-Err.ensures none)

pub run_element-returns-in-Some : goal.run_element-returns-in-Some
run_element-returns-in-Some g t c =
    λ none. element_some (g.C.Callees.front c.args.callees.now) (g.C.Callees.calls c.args.callees.now) c.args.turns c.args.index.now c.in-Some.counter c.args.i (variable_of c.args.variable.now) (tree_in c.args.value) (block_of c.args.body.now) c.args.state.now c.tick.new.self c.with_counter.new.state c.with_counter.result c.in-Some.is c.in-Ok.ensures (c.with_counter.ensures none)

pub run_element-returns-in-None : goal.run_element-returns-in-None
run_element-returns-in-None g t c =
    λ none. element_none (g.C.Callees.front c.args.callees.now) (g.C.Callees.calls c.args.callees.now) c.args.turns c.args.index.now c.args.i (variable_of c.args.variable.now) (tree_in c.args.value) (block_of c.args.body.now) c.args.state.now c.tick.new.self c.with_variable.new.state c.with_variable.result c.in-None.is c.in-Ok.ensures (c.with_variable.ensures none)

pub run_element-returns-in-Err : goal.run_element-returns-in-Err
run_element-returns-in-Err g t c =
    λ none. element_err (g.C.Callees.front c.args.callees.now) (g.C.Callees.calls c.args.callees.now) c.args.turns (option_map variable_of c.args.index.now) c.args.i (variable_of c.args.variable.now) (tree_in c.args.value) (block_of c.args.body.now) c.args.state.now c.in-Err.stop c.in-Err.ensures

pub run_next-returns-in-Some : goal.run_next-returns-in-Some
run_next-returns-in-Some g t c =
    λ whole start place places given none before. no_turn whole (parts.elements_left (g.C.Callees.front c.args.callees.now) (g.C.Callees.calls c.args.callees.now) c.args.turns (option_map variable_of c.args.index.now) (variable_of c.args.variable.now) (block_of c.args.body.now) c.args.i (place ∷ places)) (parts.elements_left (g.C.Callees.front c.args.callees.now) (g.C.Callees.calls c.args.callees.now) c.args.turns (option_map variable_of c.args.index.now) (variable_of c.args.variable.now) (block_of c.args.body.now) (suc c.args.i) places) start c.args.state.now c.args.ended c.in-Some.ran c.in-Some.is before

pub run_next-returns-in-None : goal.run_next-returns-in-None
run_next-returns-in-None g t c =
    λ whole start place places given none before. next_turn (g.C.Callees.front c.args.callees.now) (g.C.Callees.calls c.args.callees.now) c.args.turns (option_map variable_of c.args.index.now) c.args.i (variable_of c.args.variable.now) (block_of c.args.body.now) place places whole start c.args.state.now c.run_place.new.state c.args.ended c.run_place.result c.turn_end.result (g.met.C.Callees.keeps c.args.callees.now) none c.in-None.is (c.run_place.ensures place given none) c.turn_end.ensures before

pub run_place-returns-in-Ok : goal.run_place-returns-in-Ok
run_place-returns-in-Ok g t c =
    λ place given none. place_ok (g.C.Callees.front c.args.callees.now) (g.C.Callees.calls c.args.callees.now) c.args.turns (option_map variable_of c.args.index.now) c.args.i (variable_of c.args.variable.now) (block_of c.args.body.now) place c.in-Ok.value c.args.state.now c.run_element.new.state c.run_element.result (subst (λ (k : Result (Box Tree) Stop). Gives tree_in (parts.element_in place) k) c.in-Ok.is given) none c.run_element.ensures

pub run_place-returns-in-Err : goal.run_place-returns-in-Err
run_place-returns-in-Err g t c =
    λ place given none. place_err (g.C.Callees.front c.args.callees.now) (g.C.Callees.calls c.args.callees.now) c.args.turns (option_map variable_of c.args.index.now) c.args.i (variable_of c.args.variable.now) (block_of c.args.body.now) place c.args.state.now c.in-Err.stop (subst (λ (k : Result (Box Tree) Stop). Gives tree_in (parts.element_in place) k) c.in-Err.is given)

pub run_elements-loop-element-preserved : goal.run_elements-loop-element-preserved
run_elements-loop-element-preserved g t c = (
  omega (arith, c.loop-element.invariant.0, c.in-Some.ensures.2),
  λ none.
      let known = c.loop-element.invariant.1 none in
      let all = subst (λ ps. HasNoneInRow (as_row ps)) (ap (map pure_place) c.in-Some.ensures.1) known.0 in
      let number : suc c.loop-element.i ≡ c.loop-element.i + 1 = omega arith in (
        others_none (pure_place c.in-Some.ensures.0) (map pure_place (into_iter_items c.next_element.new.left)) all,
        subst (λ k. parts.HasRun (parts.elements_left (g.C.Callees.front c.args.callees.now) (g.C.Callees.calls c.args.callees.now) c.args.turns (option_map variable_of c.args.index.now) (variable_of c.args.variable.now) (block_of c.args.body.now) 0 (map pure_place c.args.row.items)) c.args.state.now (parts.elements_left (g.C.Callees.front c.args.callees.now) (g.C.Callees.calls c.args.callees.now) c.args.turns (option_map variable_of c.args.index.now) (variable_of c.args.variable.now) (block_of c.args.body.now) k (map pure_place (into_iter_items c.next_element.new.left))) c.run_next-ended.new.state c.run_next-ended.result) number
            (c.run_next-ended.ensures (parts.elements_left (g.C.Callees.front c.args.callees.now) (g.C.Callees.calls c.args.callees.now) c.args.turns (option_map variable_of c.args.index.now) (variable_of c.args.variable.now) (block_of c.args.body.now) 0 (map pure_place c.args.row.items)) c.args.state.now (pure_place c.in-Some.ensures.0) (map pure_place (into_iter_items c.next_element.new.left)) c.in-Some.ensures.3 (first_none (pure_place c.in-Some.ensures.0) (map pure_place (into_iter_items c.next_element.new.left)) all)
            (subst (λ ps. parts.HasRun (parts.elements_left (g.C.Callees.front c.args.callees.now) (g.C.Callees.calls c.args.callees.now) c.args.turns (option_map variable_of c.args.index.now) (variable_of c.args.variable.now) (block_of c.args.body.now) 0 (map pure_place c.args.row.items)) c.args.state.now (parts.elements_left (g.C.Callees.front c.args.callees.now) (g.C.Callees.calls c.args.callees.now) c.args.turns (option_map variable_of c.args.index.now) (variable_of c.args.variable.now) (block_of c.args.body.now) c.loop-element.i ps) c.loop-element.state c.loop-element.ended) (ap (map pure_place) c.in-Some.ensures.1) known.1)),
      ),
)

pub run_elements-returns-in-None : goal.run_elements-returns-in-None
run_elements-returns-in-None g t c =
    λ none. all_turned (g.C.Callees.front c.args.callees.now) (g.C.Callees.calls c.args.callees.now) c.args.turns (option_map variable_of c.args.index.now) c.loop-element.i (variable_of c.args.variable.now) (block_of c.args.body.now) (map pure_place (into_iter_items c.loop-element.left)) (parts.elements_left (g.C.Callees.front c.args.callees.now) (g.C.Callees.calls c.args.callees.now) c.args.turns (option_map variable_of c.args.index.now) (variable_of c.args.variable.now) (block_of c.args.body.now) 0 (map pure_place c.args.row.items)) c.args.state.now c.loop-element.state c.loop-element.ended c.in-None.is (ap (map pure_place) (nil_from_length (into_iter_items c.loop-element.left) (sym c.loop-element.left.rest.ok.0 ∙ c.in_default.ensures.0))) (c.loop-element.invariant.1 none).1

pub run_elements-returns-in-Some-ended : goal.run_elements-returns-in-Some-ended
run_elements-returns-in-Some-ended g t c =
    λ none. run_ended (parts.elements_left (g.C.Callees.front c.args.callees.now) (g.C.Callees.calls c.args.callees.now) c.args.turns (option_map variable_of c.args.index.now) (variable_of c.args.variable.now) (block_of c.args.body.now) 0 (map pure_place c.args.row.items)) (parts.elements_left (g.C.Callees.front c.args.callees.now) (g.C.Callees.calls c.args.callees.now) c.args.turns (option_map variable_of c.args.index.now) (variable_of c.args.variable.now) (block_of c.args.body.now) c.loop-element.i (map pure_place (into_iter_items c.loop-element.left))) c.args.state.now c.loop-element.state c.loop-element.ended c.in-Some-ended.ran c.in-Some-ended.is (c.loop-element.invariant.1 none).1

pub exec_for-returns-in-Ok : goal.exec_for-returns-in-Ok
exec_for-returns-in-Ok g t c =
    at_form (g.C.Callees.front c.args.callees.now) (g.C.Callees.calls c.args.callees.now) c.args.turns (statement_of c.args.statement.now) (e.for_loop c.in-For.at (option_map variable_of c.in-For.index) (variable_of c.in-For.variable) (term_of c.in-For.array.value) (pure_type c.in-For.array.target) (block_of c.in-For.body)) c.args.state.now c.run_elements.new.state (c.run_elements.result) (for_at c.args.statement.now c.in-For.at c.in-For.index c.in-For.variable c.in-For.array c.in-For.body c.in-For.is) (for_ok (g.C.Callees.front c.args.callees.now) (g.C.Callees.calls c.args.callees.now) c.in-For.at c.args.turns (option_map variable_of c.in-For.index) (variable_of c.in-For.variable) (term_of c.in-For.array.value) (pure_type c.in-For.array.target) (block_of c.in-For.body) c.in-Ok.row c.args.state.now c.elements_of.new.state c.run_elements.new.state c.run_elements.result (g.met.C.Callees.keeps c.args.callees.now) c.in-Ok.ensures c.run_elements.ensures)

pub exec_for-returns-in-Err : goal.exec_for-returns-in-Err
exec_for-returns-in-Err g t c =
    at_fails (g.C.Callees.front c.args.callees.now) (g.C.Callees.calls c.args.callees.now) c.args.turns (statement_of c.args.statement.now) (e.for_loop c.in-For.at (option_map variable_of c.in-For.index) (variable_of c.in-For.variable) (term_of c.in-For.array.value) (pure_type c.in-For.array.target) (block_of c.in-For.body)) c.args.state.now c.in-Err.stop (for_at c.args.statement.now c.in-For.at c.in-For.index c.in-For.variable c.in-For.array c.in-For.body c.in-For.is) (for_err (g.C.Callees.front c.args.callees.now) (g.C.Callees.calls c.args.callees.now) c.in-For.at c.args.turns (option_map variable_of c.in-For.index) (variable_of c.in-For.variable) (term_of c.in-For.array.value) (pure_type c.in-For.array.target) (block_of c.in-For.body) c.args.state.now c.in-Err.stop c.in-Err.ensures)

pub exec-returns-in-IfLet : goal.exec-returns-in-IfLet
exec-returns-in-IfLet g t c = c.exec_if_let.ensures

pub exec-returns-in-IfCast : goal.exec-returns-in-IfCast
exec-returns-in-IfCast g t c = c.exec_if_cast.ensures

pub exec-returns-in-Switch : goal.exec-returns-in-Switch
exec-returns-in-Switch g t c = c.exec_switch.ensures

pub exec_if_let-returns-in_default : goal.exec_if_let-returns-in_default
exec_if_let-returns-in_default g t c = λ w ready. tt

pub exec_if_cast-returns-in_default : goal.exec_if_cast-returns-in_default
exec_if_cast-returns-in_default g t c = λ w ready. tt

pub exec_switch-returns-in_default : goal.exec_switch-returns-in_default
exec_switch-returns-in_default g t c = λ w ready. tt

pub exec-returns-in-If : goal.exec-returns-in-If
exec-returns-in-If g t c = c.exec_if.ensures

pub exec-returns-in-While : goal.exec-returns-in-While
exec-returns-in-While g t c = c.exec_while.ensures

pub exec-returns-in-For : goal.exec-returns-in-For
exec-returns-in-For g t c = c.exec_for.ensures

pub exec_if-returns-in_default : goal.exec_if-returns-in_default
exec_if-returns-in_default g t c = λ w ready. tt

pub exec_while-returns-in_default : goal.exec_while-returns-in_default
exec_while-returns-in_default g t c = λ w ready. tt

pub exec_for-returns-in_default : goal.exec_for-returns-in_default
exec_for-returns-in_default g t c = λ w ready. tt
