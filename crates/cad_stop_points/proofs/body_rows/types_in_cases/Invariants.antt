use Rattle.std.proofs.Common.{◌≡◌, map, drop}
use Rattle.cad_scopes.specs.Views.{scope_of}
use Rattle.cad_grammar.specs.Trees.{cases_of}
use Rattle.cad_declarations.specs.Points as p
use Rattle.cad_declarations.specs.Written as w
use Rattle.cad_grammar.specs.Views as g
use Rattle.cad_stop_points.proofs.body_rows.types_in_cases.Given as goal

abbrev pub invariant-loop-case : goal.invariant-loop-case
invariant-loop-case l =
    p.types_are_there (scope_of l.scope) (w.types_of_cases (cases_of (map g.case_of (drop l.case-index l.cases)))) ≡ p.types_are_there (scope_of l.scope) (w.types_of_cases (cases_of (map g.case_of l.cases)))
