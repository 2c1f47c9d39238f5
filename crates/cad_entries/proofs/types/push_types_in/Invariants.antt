use Rattle.std.proofs.Common.{◌≡◌, ◌++◌, map, drop}
use Rattle.std.specs.List.{flat_map}
use Rattle.cad_contracts.specs.Views.{own_of}
use Rattle.cad_scopes.specs.Views.{scope_of}
use Rattle.cad_declarations.specs.Views.{type_entry_of}
use Rattle.cad_declarations.specs.Entries as e
use Rattle.cad_grammar.specs.Views as g
use Rattle.cad_entries.proofs.types.push_types_in.Given as goal

abbrev pub invariant-loop-member : goal.invariant-loop-member
invariant-loop-member l =
    map type_entry_of l.all.items ++ flat_map (e.types_by (scope_of l.scope) l.links l.own.id) (map g.contract_member_of (drop l.member-index l.member-items)) ≡ map type_entry_of l.fn.all.items ++ e.types_in (scope_of l.scope) l.links (own_of l.own)
