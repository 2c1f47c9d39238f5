use Rattle.std.proofs.Common.{◌≡◌, map, drop}
use Rattle.std.specs.List.{list_all}
use Rattle.cad_grammar.specs.Views.{interface_member_of}
use Rattle.cad_declarations.specs.Views.{tables_of}
use Rattle.cad_typing.specs.Heads as spec
use Rattle.cad_heads.proofs.declared.interface_members_are_right.Given as goal

abbrev pub invariant-loop-member : goal.invariant-loop-member
invariant-loop-member l =
    list_all (spec.interface_member_is_right l.kind (tables_of l.known.tables.now)) (map interface_member_of (drop l.member-index l.members))
    ≡ list_all (spec.interface_member_is_right l.kind (tables_of l.known.tables.now)) (map interface_member_of l.members)
