use Rattle.std.proofs.Common.{◌≡◌, ◌++◌, map, drop}
use Rattle.cad_scopes.specs.Views.{scope_of}
use Rattle.cad_declarations.specs.Views.{member_of}
use Rattle.cad_declarations.specs.Entries as e
use Rattle.cad_grammar.specs.Views as g
use Rattle.cad_entries.proofs.members.event_fields.Given as goal

abbrev pub invariant-loop-p : goal.invariant-loop-p
invariant-loop-p l =
    map member_of l.made.items ++ map (e.event_field (scope_of l.scope) l.id) (map g.event_parameter_of (drop l.p-index l.all)) ≡ map (e.event_field (scope_of l.scope) l.id) (map g.event_parameter_of l.all)
