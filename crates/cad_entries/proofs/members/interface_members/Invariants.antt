use Rattle.std.proofs.Common.{◌≡◌, ◌++◌, map, drop}
use Rattle.cad_scopes.specs.Views.{scope_of}
use Rattle.cad_declarations.specs.Views.{member_of}
use Rattle.cad_declarations.specs.Entries as e
use Rattle.cad_grammar.specs.Views as g
use Rattle.cad_entries.proofs.members.interface_members.Given as goal

abbrev pub invariant-loop-member : goal.invariant-loop-member
invariant-loop-member l =
    map member_of l.all.items ++ map (e.interface_member (scope_of l.scope) l.id) (map g.interface_member_of (drop l.member-index l.members)) ≡ map (e.interface_member (scope_of l.scope) l.id) (map g.interface_member_of l.members)
