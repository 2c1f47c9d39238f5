use Rattle.std.proofs.Common.{◌≡◌, ◌++◌, map, drop}
use Rattle.std.specs.List.{flat_map}
use Rattle.cad_contracts.specs.Views.{own_of}
use Rattle.cad_scopes.specs.Views.{scope_of}
use Rattle.cad_declarations.specs.Views.{mapping_entry_of}
use Rattle.cad_declarations.specs.Build as b
use Rattle.cad_declarations.specs.Entries as e
use Rattle.cad_grammar.specs.Views as g
use Rattle.cad_entries.proofs.mappings.push_own_mappings.Given as goal

abbrev pub invariant-loop-member : goal.invariant-loop-member
invariant-loop-member l =
    map mapping_entry_of l.all.items ++ flat_map (e.mappings_by (scope_of l.scope) l.own.id) (map g.contract_member_of (drop l.member-index l.member-items)) ≡ map mapping_entry_of l.initial.all.items ++ b.own_mappings (scope_of l.scope) (own_of l.own)
