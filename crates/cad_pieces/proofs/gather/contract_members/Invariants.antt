use Rattle.std.proofs.Common.{◌≡◌, drop, map}
use Rattle.cad_grammar.specs.Views.{contract_member_of}
use Rattle.cad_declarations.specs.Views.{type_body_of}
use Rattle.cad_pieces.specs.Code.Walk as spec
use Rattle.cad_pieces.specs.Views.{pieces_of}
use Rattle.cad_pieces.proofs.gather.contract_members.Given as goal

abbrev pub invariant-loop-member : goal.invariant-loop-member
invariant-loop-member l =
    spec.contract_members l.id (map contract_member_of (drop l.member-index l.members))
    (spec.contract_walk (spec.walk (type_body_of l.all) (pieces_of l.left.items)) (map type_body_of l.nested.items))
    ≡ spec.contract_members l.id (map contract_member_of l.members)
    (spec.contract_walk (spec.walk (type_body_of l.fn.own) (pieces_of l.initial.left.items)) (map type_body_of l.initial.nested.items))
