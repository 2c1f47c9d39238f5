use Rattle.std.proofs.Common.{◌≡◌, map, drop}
use Rattle.cad_scopes.specs.Views.{scope_of}
use Rattle.cad_declarations.specs.Points as p
use Rattle.cad_declarations.specs.Written as w
use Rattle.cad_grammar.specs.Views as g
use Rattle.cad_stop_points.proofs.right.parameters_are_there.Given as goal

abbrev pub invariant-loop-parameter : goal.invariant-loop-parameter
invariant-loop-parameter l =
    p.types_are_there (scope_of l.scope) (w.types_of_parameters (map g.parameter_of (drop l.parameter-index l.parameters))) ≡ p.types_are_there (scope_of l.scope) (w.types_of_parameters (map g.parameter_of l.parameters))
