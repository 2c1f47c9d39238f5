use Rattle.cad_receivers.specs.Views.{receiver_of}
use Rattle.cad_expression_leaves.proofs.Boxing.{finds_boxed}
use Rattle.cad_expression_leaves.specs.Code.Steps.{member_read}
use Rattle.cad_expression_leaves.proofs.reads.read_member.Goals as goal

pub returns : goal.returns
returns c front calls = finds_boxed (member_read front calls c.args.builtin (receiver_of c.args.receiver.now)) c.args.state.now c.read_with_rights.new.state c.read_with_rights.result c.boxed.result c.boxed.ensures (c.read_with_rights.ensures front calls)
