use Rattle.std.specs.Vec.Iter.{into_iter_items, into_iter_len}
use Rattle.std.specs.Vec.{vec_len}
use Rattle.cad_declarations.specs.Views.{variable_of}
use Rattle.cad_labels.specs.Laws.{HasNoneInRow}
use Rattle.cad_rows.specs.Views.{as_row, pure_place, pure_row}
use Rattle.std.proofs.Common.{◌+◌}
use Rattle.std.proofs.Common.{map, option_map, ◌≡◌, ◌-◌, drop}
use Rattle.std.specs.Prelude.{Option, Result}
use Rattle.cad_declarations.specs.Typed as e
use Rattle.cad_declarations.specs.Views.{block_of, case_of, statement_of, term_of}
use Rattle.cad_evaluation.specs.Statements as spec
use Rattle.cad_statement_leaves.proofs.FlowLaws.{turns_left}
use Rattle.cad_statement_leaves.specs.Code.Parts as parts
use Rattle.cad_statement_leaves.specs.Views.{flow_of}
use Rattle.cad_statement_leaves.specs.declared.flow.Flow.{Flow}
use Rattle.cad_outcomes.specs.declared.stop.Stop.{Stop}
use Rattle.cad_rows.specs.Views.{pure_tree}
use Rattle.cad_state.specs.Views.{FindsAndCarriesOut}
use Rattle.cad_state.specs.declared.state.RunState.{RunState}
use Rattle.cad_execution.proofs.statements.+runs.Given as goal

abbrev pub invariant-exec_all-loop-statement : goal.invariant-exec_all-loop-statement
invariant-exec_all-loop-statement g l =
    (z : RunState) (r : Result Flow Stop)
    → FindsAndCarriesOut flow_of (spec.exec_all (g.C.Callees.front l.callees) (g.C.Callees.calls l.callees) l.turns (e.statements_of (map statement_of (drop l.statement-index l.all)))) l.state z r
    → FindsAndCarriesOut flow_of (spec.exec_all (g.C.Callees.front l.callees) (g.C.Callees.calls l.callees) l.turns (e.statements_of (map statement_of l.all))) l.fn.state z r

abbrev pub invariant-exec_cases-loop-case : goal.invariant-exec_cases-loop-case
invariant-exec_cases-loop-case g l =
    (z : RunState) (r : Result (Option Flow) Stop)
    → FindsAndCarriesOut (option_map flow_of) (parts.exec_cases (g.C.Callees.front l.callees) (g.C.Callees.calls l.callees) l.turns l.nil (pure_tree l.value) (e.cases_of (map case_of (drop l.case-index l.cases)))) l.state z r
    → FindsAndCarriesOut (option_map flow_of) (parts.exec_cases (g.C.Callees.front l.callees) (g.C.Callees.calls l.callees) l.turns l.nil (pure_tree l.value) (e.cases_of (map case_of l.cases))) l.fn.state z r

abbrev pub invariant-repeat-loop : goal.invariant-repeat-loop
invariant-repeat-loop g l =
    (z : RunState) (r : Result Flow Stop)
    → FindsAndCarriesOut flow_of (turns_left (g.C.Callees.front l.callees) (g.C.Callees.calls l.callees) l.turns (term_of l.test) (block_of l.body) (l.turns - l.counter)) l.state z r
    → FindsAndCarriesOut flow_of (turns_left (g.C.Callees.front l.callees) (g.C.Callees.calls l.callees) l.turns (term_of l.test) (block_of l.body) l.turns) l.fn.state z r

abbrev pub invariant-run_elements-loop-element : goal.invariant-run_elements-loop-element
invariant-run_elements-loop-element g l =
    (l.i + into_iter_len l.left ≡ vec_len l.fn.row) × (HasNoneInRow (pure_row l.fn.row.items) → HasNoneInRow (as_row (map pure_place (into_iter_items l.left)))
    × parts.HasRun (parts.elements_left (g.C.Callees.front l.callees) (g.C.Callees.calls l.callees) l.turns (option_map variable_of l.index) (variable_of l.variable) (block_of l.body) 0 (map pure_place l.fn.row.items)) l.fn.state
    (parts.elements_left (g.C.Callees.front l.callees) (g.C.Callees.calls l.callees) l.turns (option_map variable_of l.index) (variable_of l.variable) (block_of l.body) l.i (map pure_place (into_iter_items l.left))) l.state l.ended)

abbrev pub decreases-run_elements-loop-element : goal.decreases-run_elements-loop-element
decreases-run_elements-loop-element g l = into_iter_len l.left
