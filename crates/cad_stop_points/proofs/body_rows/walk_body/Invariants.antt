use Rattle.std.proofs.Common.{◌≡◌, map, drop}
use Rattle.cad_stop_points.specs.Code.Walks.{walked}
use Rattle.cad_scopes.specs.Views.{scope_of}
use Rattle.cad_declarations.specs.Written as w
use Rattle.cad_grammar.specs.Views as g
use Rattle.cad_stop_points.proofs.body_rows.walk_body.Given as goal

abbrev pub invariant-loop-s : goal.invariant-loop-s
invariant-loop-s l =
    walked (scope_of l.scope) (w.rows_of_body (map g.stmt_of (drop l.s-index l.all))) l.behind ≡ walked (scope_of l.scope) (w.rows_of_body (map g.stmt_of l.all)) l.fn.walk
