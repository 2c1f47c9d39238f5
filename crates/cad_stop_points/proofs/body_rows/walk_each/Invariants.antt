use Rattle.std.proofs.Common.{◌≡◌, map, drop}
use Rattle.cad_stop_points.specs.Code.Walks.{walked}
use Rattle.cad_scopes.specs.Views.{scope_of}
use Rattle.cad_declarations.specs.Written as w
use Rattle.cad_grammar.specs.Views as g
use Rattle.cad_stop_points.proofs.body_rows.walk_each.Given as goal

abbrev pub invariant-loop-condition : goal.invariant-loop-condition
invariant-loop-condition l =
    walked (scope_of l.scope) (map w.types_of_condition (map g.condition_of (drop l.condition-index l.all))) l.behind ≡ walked (scope_of l.scope) (map w.types_of_condition (map g.condition_of l.all)) l.fn.walk
