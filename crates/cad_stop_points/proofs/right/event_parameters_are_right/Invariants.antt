use Rattle.std.proofs.Common.{◌≡◌, map, drop}
use Rattle.std.specs.List.{list_all}
use Rattle.cad_scopes.specs.Views.{scope_of}
use Rattle.cad_declarations.specs.Points as p
use Rattle.cad_grammar.specs.Views as g
use Rattle.cad_stop_points.proofs.right.event_parameters_are_right.Given as goal

abbrev pub invariant-loop-parameter : goal.invariant-loop-parameter
invariant-loop-parameter l =
    list_all (p.event_parameter_is_right (scope_of l.scope)) (map g.event_parameter_of (drop l.parameter-index l.parameters)) ≡ list_all (p.event_parameter_is_right (scope_of l.scope)) (map g.event_parameter_of l.parameters)
