use Rattle.std.proofs.Common.{◌≡◌, map, drop}
use Rattle.cad_scopes.specs.Views.{scope_of}
use Rattle.cad_declarations.specs.Entries as e
use Rattle.cad_grammar.specs.Views as g
use Rattle.cad_entries.proofs.members.composite_init.Given as goal

abbrev pub invariant-loop-member : goal.invariant-loop-member
invariant-loop-member l =
    e.composite_init (scope_of l.scope) (map g.composite_member_of (drop l.member-index l.members)) ≡ e.composite_init (scope_of l.scope) (map g.composite_member_of l.members)
