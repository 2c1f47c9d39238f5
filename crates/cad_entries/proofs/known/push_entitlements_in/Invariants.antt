use Rattle.std.proofs.Common.{◌≡◌, ◌++◌, map, drop}
use Rattle.std.specs.List.{flat_map}
use Rattle.cad_contracts.specs.Views.{own_of}
use Rattle.cad_declarations.specs.Own as own
use Rattle.cad_grammar.specs.Views as g
use Rattle.cad_entries.proofs.known.push_entitlements_in.Given as goal

abbrev pub invariant-loop-member : goal.invariant-loop-member
invariant-loop-member l =
    l.all.items ++ flat_map (own.entitlement_by l.own.id) (map g.contract_member_of (drop l.member-index l.member-items)) ≡ l.initial.all.items ++ own.entitlements_in (own_of l.own)
