use Rattle.std.proofs.Common.{ap}
use Rattle.cad_receivers.specs.Views.{receiver_of}
use Rattle.cad_rows.specs.Views.{pure_row}
use Rattle.cad_expression_leaves.proofs.Rights.{read_granted, read_refused}
use Rattle.cad_expression_leaves.proofs.reads.read_with_rights.Goals as goal

pub returns-in-Ok-true : goal.returns-in-Ok-true
returns-in-Ok-true c front calls = read_granted front calls c.args.builtin (receiver_of c.args.receiver.now) c.in-Ok-true.field-0 (pure_row c.new.result.items) c.args.state.now c.member.new.state c.member.result c.in-Ok-true.field-0-test c.in-Ok-true.ensures (ap pure_row c.new.ensures.items) (c.member.ensures front calls)

pub returns-in-Ok-false : goal.returns-in-Ok-false
returns-in-Ok-false c front calls = read_refused front calls c.args.builtin (receiver_of c.args.receiver.now) c.in-Ok-false.field-0 c.args.state.now c.refuse.new.state c.refuse.result c.in-Ok-false.field-0-test c.in-Ok-false.ensures c.refuse.ensures
