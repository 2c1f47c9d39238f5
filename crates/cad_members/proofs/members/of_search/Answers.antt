use Rattle.cad_evaluation.specs.Builtins.{plain_member}
use Rattle.cad_receivers.specs.Views.{settled_of}
use Rattle.cad_rows.specs.Views.{pure_row}
use Rattle.cad_state.specs.Views.{state_over}
use Rattle.cad_value_operations.proofs.ChargeLaws.{count_stops, search_stops, searched}
use Rattle.cad_world.specs.Receivers.{look_at}
use Rattle.cad_world.specs.Trees.{row_weight}
use Rattle.cad_members.proofs.members.of_search.Goals as goal

pub returns-in-Ok-container_member : goal.returns-in-Ok-container_member
returns-in-Ok-container_member c = λ w ready.
    searched (look_at (settled_of c.args.receiver)) (λ spot. row_weight spot.tree.parts) (λ spot. plain_member c.args.builtin spot (pure_row c.args.arguments.items)) c.in-Ok.cost
    (state_over w c.args.state.now) (state_over w c.container_member.new.state) (state_over w c.pay.new.state) c.in-Ok-container_member.tree c.pay.result
    (c.in-Ok.ensures w ready) (c.in-Ok-container_member.ensures w ready) (c.pay.ensures w)

pub returns-in-Err-container_member : goal.returns-in-Err-container_member
returns-in-Err-container_member c = λ w ready.
    search_stops (look_at (settled_of c.args.receiver)) (λ spot. row_weight spot.tree.parts) (λ spot. plain_member c.args.builtin spot (pure_row c.args.arguments.items)) c.in-Ok.cost
    (state_over w c.args.state.now) c.in-Err-container_member.stop (c.in-Ok.ensures w ready) (c.in-Err-container_member.ensures w ready)

pub returns-in-Err : goal.returns-in-Err
returns-in-Err c = λ w ready. count_stops (look_at (settled_of c.args.receiver)) (λ spot. row_weight spot.tree.parts) (λ spot. plain_member c.args.builtin spot (pure_row c.args.arguments.items)) (state_over w c.args.state.now) c.in-Err.stop (c.in-Err.ensures w ready)
