use Rattle.std.proofs.Common.{map}
use Rattle.cad_evaluation.specs.Builtins.{member}
use Rattle.cad_expression_leaves.specs.Passed.{at_spot, receiver_of}
use Rattle.cad_rows.specs.Views.{pure_row}
use Rattle.cad_syntax.specs.Types.{pure_type}
use Rattle.cad_expression_leaves.proofs.Boxing.{finds_boxed}
use Rattle.cad_expressions.proofs.uses.member_boxed.Goals as goal

pub returns : goal.returns
returns c front calls = finds_boxed (at_spot (receiver_of c.args.receiver.now) (λ spot. member front calls c.args.builtin (map pure_type c.args.types.now) spot (pure_row c.args.row.items))) c.args.state.now c.member.new.state c.member.result c.boxed.result c.boxed.ensures (c.member.ensures front calls)
