use Rattle.std.proofs.Common.{◌≡◌, map, drop}
use Rattle.cad_scopes.specs.Views.{scope_of}
use Rattle.cad_declarations.specs.Entries as e
use Rattle.cad_grammar.specs.Views as g
use Rattle.cad_entries.proofs.members.contract_init.Given as goal

abbrev pub invariant-loop-member : goal.invariant-loop-member
invariant-loop-member l =
    e.contract_init (scope_of l.scope) (map g.contract_member_of (drop l.member-index l.members)) ≡ e.contract_init (scope_of l.scope) (map g.contract_member_of l.members)
