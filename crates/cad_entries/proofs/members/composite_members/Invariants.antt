use Rattle.std.proofs.Common.{◌≡◌, ◌++◌, map, drop}
use Rattle.std.specs.Prelude.{filter_map}
use Rattle.cad_scopes.specs.Views.{scope_of}
use Rattle.cad_declarations.specs.Views.{member_of}
use Rattle.cad_declarations.specs.Entries as e
use Rattle.cad_grammar.specs.Views as g
use Rattle.cad_entries.proofs.members.composite_members.Given as goal

abbrev pub invariant-loop-member : goal.invariant-loop-member
invariant-loop-member l =
    map member_of l.all.items ++ filter_map (e.composite_member (scope_of l.scope) l.id) (map g.composite_member_of (drop l.member-index l.members)) ≡ filter_map (e.composite_member (scope_of l.scope) l.id) (map g.composite_member_of l.members)
