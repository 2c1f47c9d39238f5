use Rattle.std.proofs.Common.{◌≡◌, drop, map}
use Rattle.cad_grammar.specs.Views.{interface_member_of}
use Rattle.cad_declarations.specs.Views.{type_body_of}
use Rattle.cad_pieces.specs.Code.Walk as spec
use Rattle.cad_pieces.specs.Views.{pieces_of}
use Rattle.cad_pieces.proofs.gather.interface_members.Given as goal

abbrev pub invariant-loop-member : goal.invariant-loop-member
invariant-loop-member l =
    spec.interface_members (map interface_member_of (drop l.member-index l.members)) (spec.walk (type_body_of l.all) (pieces_of l.left.items))
    ≡ spec.interface_members (map interface_member_of l.members) (spec.walk (type_body_of l.fn.body) (pieces_of l.initial.left.items))
