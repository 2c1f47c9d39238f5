use Rattle.std.proofs.Common.{◌≡◌, ◌++◌, map, arith}
use Rattle.cad_grammar.specs.Views.{contract_member_of}
use Rattle.cad_declarations.specs.Views.{tables_of}
use Rattle.cad_typing.specs.Pieces as spec
use Rattle.cad_pieces.specs.Views.{pieces_of}
use Rattle.cad_bodies.proofs.Each.{turn}
use Rattle.cad_bodies.proofs.program.push_contract_members.Goals as goal

pub loop-member-preserved : goal.loop-member-preserved
loop-member-preserved c =
    turn contract_member_of (spec.contract_member_pieces (tables_of c.args.known.tables.now) c.args.id.now) c.args.members.now c.loop-member.member-index c.member-item.result
    (pieces_of c.loop-member.all.items) (pieces_of c.push_contract_member.new.all.items) _ (omega arith) c.member-item.is c.in_ok-push_contract_member.ensures c.loop-member.invariant
