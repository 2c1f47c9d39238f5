use Rattle.std.proofs.Common.{◌≡◌, map, drop}
use Rattle.std.specs.List.{list_all}
use Rattle.cad_grammar.specs.Views.{contract_member_of}
use Rattle.cad_declarations.specs.Views.{tables_of}
use Rattle.cad_typing.specs.Heads as spec
use Rattle.cad_heads.proofs.declared.contract_is_right.Given as goal

abbrev pub invariant-loop-member : goal.invariant-loop-member
invariant-loop-member l =
    list_all (spec.contract_member_is_right (tables_of l.known.tables.now)) (map contract_member_of (drop l.member-index l.members))
    ≡ list_all (spec.contract_member_is_right (tables_of l.known.tables.now)) (map contract_member_of l.members)
