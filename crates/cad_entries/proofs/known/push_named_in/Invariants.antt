use Rattle.std.proofs.Common.{◌≡◌, ◌++◌, map, drop}
use Rattle.std.specs.List.{flat_map}
use Rattle.cad_contracts.specs.Views.{own_of}
use Rattle.cad_types.specs.Declarations.{declaration_of as kind_of}
use Rattle.cad_declarations.specs.Own as own
use Rattle.cad_grammar.specs.Views as g
use Rattle.cad_entries.proofs.known.push_named_in.Given as goal

abbrev pub invariant-loop-member : goal.invariant-loop-member
invariant-loop-member l =
    map kind_of l.all.items ++ flat_map (own.named_by l.own.id) (map g.contract_member_of (drop l.member-index l.member-items)) ≡ map kind_of l.fn.all.items ++ own.named_in (own_of l.own)
