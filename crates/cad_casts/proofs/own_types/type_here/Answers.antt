use Rattle.std.proofs.Common.{option_map}
use Rattle.cad_casts.proofs.Settles.{told_here}
use Rattle.cad_rows.specs.Views.{pure_shape}
use Rattle.cad_state.specs.Views.{state_over}
use Rattle.cad_casts.proofs.own_types.type_here.Goals as goal

pub returns-in-Ok : goal.returns-in-Ok
returns-in-Ok c = λ parts w ready.
    told_here c.args.optionals (pure_shape c.args.own.now) (option_map (λ x. pure_shape x.now) c.in-Ok.found) parts (state_over w c.args.state.now) c.own_type.result c.type_told.result
    (c.in-Ok.ensures w ready) c.own_type.ensures c.type_told.ensures
