use Rattle.std.proofs.Common.{◌≡◌, map, drop}
use Rattle.std.specs.List.{list_all}
use Rattle.cad_scopes.specs.Views.{scope_of}
use Rattle.cad_declarations.specs.Points as p
use Rattle.cad_grammar.specs.Views as g
use Rattle.cad_tables.proofs.program_points.fields_are_right.Given as goal

abbrev pub invariant-loop-field : goal.invariant-loop-field
invariant-loop-field l =
    list_all (p.transaction_field_is_right (scope_of l.scope)) (map g.transaction_field_of (drop l.field-index l.fields)) ≡ list_all (p.transaction_field_is_right (scope_of l.scope)) (map g.transaction_field_of l.fields)
