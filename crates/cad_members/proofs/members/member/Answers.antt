use Rattle.cad_evaluation.specs.Builtins.{member}
use Rattle.cad_receivers.proofs.Passing.{after_settled, settled_stops}
use Rattle.cad_receivers.specs.Views.{receiver_of}
use Rattle.cad_rows.specs.Views.{pure_row, pure_tree}
use Rattle.cad_syntax.specs.Types.{pure_type}
use Rattle.std.proofs.Common.{map}
use Rattle.cad_members.proofs.members.member.Goals as goal

pub returns-in-Ok : goal.returns-in-Ok
returns-in-Ok c = λ front calls.
    after_settled pure_tree (receiver_of c.args.receiver.now) (λ spot. member front calls c.args.builtin (map (λ t. pure_type t) c.args.types.now) spot (pure_row c.args.arguments.items)) c.in-Ok.settled
    c.args.state.now c.settle_receiver.new.state c.member_settled.new.state c.member_settled.result c.in-Ok.ensures (c.member_settled.ensures front calls)

pub returns-in-Err : goal.returns-in-Err
returns-in-Err c = λ front calls.
    settled_stops pure_tree (receiver_of c.args.receiver.now) (λ spot. member front calls c.args.builtin (map (λ t. pure_type t) c.args.types.now) spot (pure_row c.args.arguments.items))
    c.args.state.now c.settle_receiver.new.state c.settle_receiver.new.state c.in-Err.stop c.in-Err.ensures
