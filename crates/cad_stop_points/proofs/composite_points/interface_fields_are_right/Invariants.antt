use Rattle.std.proofs.Common.{◌≡◌, map, drop, reverse}
use Rattle.cad_scopes.specs.Views.{scope_of}
use Rattle.cad_declarations.specs.Points as p
use Rattle.cad_grammar.specs.Views as g
use Rattle.cad_stop_points.proofs.composite_points.interface_fields_are_right.Given as goal

abbrev pub invariant-loop-member : goal.invariant-loop-member
invariant-loop-member l =
    p.interface_fields_are_right (scope_of l.scope) (reverse l.before) (map g.interface_member_of (drop l.member-index l.members)) ≡ p.interface_fields_are_right (scope_of l.scope) (p.names_of_composite l.fn.kind) (map g.interface_member_of l.members)
