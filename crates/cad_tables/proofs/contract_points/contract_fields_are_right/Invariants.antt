use Rattle.std.proofs.Common.{◌≡◌, map, drop, reverse}
use Rattle.cad_scopes.specs.Views.{scope_of}
use Rattle.cad_declarations.specs.Points as p
use Rattle.cad_grammar.specs.Views as g
use Rattle.cad_tables.proofs.contract_points.contract_fields_are_right.Given as goal

abbrev pub invariant-loop-member : goal.invariant-loop-member
invariant-loop-member l =
    p.contract_fields_are_right (scope_of l.scope) (reverse l.before) (map g.contract_member_of (drop l.member-index l.members)) ≡ p.contract_fields_are_right (scope_of l.scope) p.names_of_contract (map g.contract_member_of l.members)
