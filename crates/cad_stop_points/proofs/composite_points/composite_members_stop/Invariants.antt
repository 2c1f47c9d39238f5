use Rattle.std.proofs.Common.{◌≡◌, map, drop, reverse}
use Rattle.cad_scopes.specs.Views.{scope_of}
use Rattle.cad_declarations.specs.Build as b
use Rattle.cad_declarations.specs.Points as p
use Rattle.cad_grammar.specs.Views as g
use Rattle.cad_stop_points.proofs.composite_points.composite_members_stop.Given as goal

abbrev pub invariant-loop-member : goal.invariant-loop-member
invariant-loop-member l =
    b.first_stop (scope_of l.scope) (p.composite_members_points (scope_of l.scope) l.kind l.names (reverse l.before) (map g.composite_member_of (drop l.member-index l.members))) ≡ b.first_stop (scope_of l.scope) (p.composite_members_points (scope_of l.scope) l.kind l.names (p.names_of_composite l.kind) (map g.composite_member_of l.members))
