use Rattle.cad_receivers.specs.Views.{settled_of}
use Rattle.cad_rows.specs.Views.{pure_row}
use Rattle.cad_state.specs.Views.{state_over}
use Rattle.cad_value_operations.proofs.ChargeLaws.{paid_behind, paid_stops}
use Rattle.cad_value_operations.specs.Code.Members.{spot_member}
use Rattle.cad_world.specs.Receivers.{look_at}
use Rattle.cad_members.proofs.members.paid_member.Goals as goal

pub returns-in-Ok : goal.returns-in-Ok
returns-in-Ok c = λ w ready. paid_behind (look_at (settled_of c.args.receiver)) (λ spot. spot_member c.args.group spot (pure_row c.args.row.now)) 0 (state_over w c.args.state.now) (state_over w c.read_member.new.state) (state_over w c.pay.new.state) c.in-Ok.tree c.pay.result (c.in-Ok.ensures w ready) (c.pay.ensures w)

pub returns-in-Err : goal.returns-in-Err
returns-in-Err c = λ w ready. paid_stops (look_at (settled_of c.args.receiver)) (λ spot. spot_member c.args.group spot (pure_row c.args.row.now)) 0 (state_over w c.args.state.now) c.in-Err.stop (c.in-Err.ensures w ready)
