use Rattle.std.proofs.Common.{◌≡◌, ◌++◌, map, drop}
use Rattle.std.specs.List.{flat_map}
use Rattle.cad_grammar.specs.Views.{composite_member_of}
use Rattle.cad_declarations.specs.Views.{tables_of}
use Rattle.cad_typing.specs.Pieces as spec
use Rattle.cad_pieces.specs.Views.{pieces_of}
use Rattle.cad_bodies.proofs.program.push_composite_members.Given as goal

abbrev pub invariant-loop-member : goal.invariant-loop-member
invariant-loop-member l =
    pieces_of l.all.items ++ flat_map (spec.composite_member_pieces (tables_of l.known.tables.now) l.id) (map composite_member_of (drop l.member-index l.members))
    ≡ pieces_of l.initial.all.items ++ flat_map (spec.composite_member_pieces (tables_of l.known.tables.now) l.id) (map composite_member_of l.members)
