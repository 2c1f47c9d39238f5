use Rattle.std.proofs.Common.{map, sym, ◌∙◌, Err}
use Rattle.cad_rows.specs.Views.{pure_tree, pure_row}
use Rattle.cad_outcomes.specs.Outcomes.{no_value}
use Rattle.cad_expression_leaves.proofs.Going.{any_on, any_stopped}
use Rattle.cad_expressions.proofs.Calls.{read_same, called_same}
use Rattle.cad_expression_leaves.specs.Code.Steps.{built_in_called}
use Rattle.cad_evaluation.specs.Builtins as built_in
use Rattle.cad_outcomes.proofs.Steps.{does_same}
use Rattle.cad_state.specs.Views.{state_over}
use Rattle.cad_syntax.specs.Types.{pure_type}
use Rattle.cad_world.specs.State.{tick, ◌>>=◌}
use Rattle.cad_rows.specs.declared.tree.Tree.{Tree}
use Rattle.cad_expressions.proofs.uses.call_builtin.Goals as goal

pub returns-then-is_read : goal.returns-then-is_read
returns-then-is_read c = λ w. does_same pure_tree (built_in_called c.args.builtin (map pure_type c.args.types.now) (pure_row c.args.row.items)) (built_in.function c.args.builtin (map pure_type c.args.types.now) (pure_row c.args.row.items)) (state_over w c.args.state.now) (state_over w c.function.new.state) c.function.result (read_same c.args.builtin (map pure_type c.args.types.now) (pure_row c.args.row.items) (sym c.is_read.ensures ∙ c.if-is_read.true) (state_over w c.args.state.now)) (c.function.ensures w)

pub returns-in-Ok : goal.returns-in-Ok
returns-in-Ok c = λ w. does_same pure_tree (built_in_called c.args.builtin (map pure_type c.args.types.now) (pure_row c.args.row.items)) (tick >>= (λ (u : Unit {0}). built_in.function c.args.builtin (map pure_type c.args.types.now) (pure_row c.args.row.items))) (state_over w c.args.state.now) (state_over w c.function-in-Ok.new.state) c.function-in-Ok.result (called_same c.args.builtin (map pure_type c.args.types.now) (pure_row c.args.row.items) (sym c.is_read.ensures ∙ c.if-is_read.false) (state_over w c.args.state.now))
    (any_on tick no_value pure_tree (λ (u : Unit {0}). built_in.function c.args.builtin (map pure_type c.args.types.now) (pure_row c.args.row.items)) c.tick.result tt c.args.state.now c.tick.new.self c.function-in-Ok.new.state c.function-in-Ok.result c.in-Ok.is c.tick.ensures c.function-in-Ok.ensures w)

pub returns-in-Err : goal.returns-in-Err
returns-in-Err c = λ w. does_same pure_tree (built_in_called c.args.builtin (map pure_type c.args.types.now) (pure_row c.args.row.items)) (tick >>= (λ (u : Unit {0}). built_in.function c.args.builtin (map pure_type c.args.types.now) (pure_row c.args.row.items))) (state_over w c.args.state.now) (state_over w c.tick.new.self) (Err c.in-Err.stop) (called_same c.args.builtin (map pure_type c.args.types.now) (pure_row c.args.row.items) (sym c.is_read.ensures ∙ c.if-is_read.false) (state_over w c.args.state.now))
    (any_stopped {D = Tree} tick no_value pure_tree (λ (u : Unit {0}). built_in.function c.args.builtin (map pure_type c.args.types.now) (pure_row c.args.row.items)) c.tick.result c.in-Err.stop c.args.state.now c.tick.new.self c.tick.new.self c.in-Err.is c.tick.ensures w)
