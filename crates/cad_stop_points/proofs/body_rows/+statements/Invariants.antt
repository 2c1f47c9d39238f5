use Rattle.std.proofs.Common.{◌≡◌, map, drop}
use Rattle.cad_stop_points.specs.Code.Walks.{walked}
use Rattle.cad_scopes.specs.Views.{scope_of}
use Rattle.cad_grammar.specs.Trees.{stmts_of, cases_of}
use Rattle.cad_declarations.specs.Written as w
use Rattle.cad_grammar.specs.Views as g
use Rattle.cad_stop_points.proofs.body_rows.+statements.Given as goal

abbrev pub invariant-walk_statements-loop-s : goal.invariant-walk_statements-loop-s
invariant-walk_statements-loop-s l =
    walked (scope_of l.scope) (w.rows_of_stmts (stmts_of (map g.stmt_of (drop l.s-index l.all)))) l.behind ≡ walked (scope_of l.scope) (w.rows_of_stmts (stmts_of (map g.stmt_of l.all))) l.fn.walk

abbrev pub invariant-walk_cases-loop-case : goal.invariant-walk_cases-loop-case
invariant-walk_cases-loop-case l =
    walked (scope_of l.scope) (w.rows_of_cases (cases_of (map g.case_of (drop l.case-index l.cases)))) l.behind ≡ walked (scope_of l.scope) (w.rows_of_cases (cases_of (map g.case_of l.cases))) l.fn.walk
