use Rattle.std.proofs.Common.{◌≡◌, ◌++◌, map, drop}
use Rattle.std.specs.List.{flat_map}
use Rattle.cad_contracts.specs.Views.{own_of}
use Rattle.cad_scopes.specs.Views.{scope_of}
use Rattle.cad_declarations.specs.Own as own
use Rattle.cad_grammar.specs.Views as g
use Rattle.cad_contracts.proofs.links.push_links_in.Given as goal

abbrev pub invariant-loop-member : goal.invariant-loop-member
invariant-loop-member l =
    l.links.items ++ flat_map (own.parent_links_by (scope_of l.scope) l.own.id) (map g.contract_member_of (drop l.member-index l.member-items)) ≡ l.initial.links.items ++ own.parent_links_in (scope_of l.scope) (own_of l.own)
