use Rattle.cad_outcomes.proofs.Steps.{stops_on, then}
use Rattle.cad_rows.specs.Views.{pure_row, pure_tree}
use Rattle.cad_state.specs.Views.{state_over}
use Rattle.cad_syntax.specs.Types.{pure_type}
use Rattle.cad_value_operations.specs.Code.Members.{call_member, paid}
use Rattle.std.proofs.Common.{map}
use Rattle.cad_value_operations.proofs.functions.paid_call.Goals as goal

pub returns-in-Ok : goal.returns-in-Ok
returns-in-Ok c = λ w. then pure_tree (call_member c.args.called (map (λ t. pure_type t) c.args.types.now) (pure_row c.args.row.now)) (λ t. paid 0 t) (pure_tree c.in-Ok.tree) (state_over w c.args.state.now) (state_over w c.args.state.now) (state_over w c.pay.new.state) c.pay.result (c.in-Ok.ensures w) (c.pay.ensures w)

pub returns-in-Err : goal.returns-in-Err
returns-in-Err c = λ w. stops_on (call_member c.args.called (map (λ t. pure_type t) c.args.types.now) (pure_row c.args.row.now) (state_over w c.args.state.now)) (λ t. paid 0 t) c.in-Err.stop (c.in-Err.ensures w)
