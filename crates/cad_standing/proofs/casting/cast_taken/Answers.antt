use Rattle.std.specs.Prelude.{option_map}
use Rattle.cad_rows.specs.Views.{pure_tree}
use Rattle.cad_syntax.specs.Types.{pure_type}
use Rattle.cad_state.specs.Views.{state_over}
use Rattle.cad_evaluation.specs.Changing.{take}
use Rattle.cad_outcomes.proofs.Steps.{stops_on}
use Rattle.cad_world.specs.Locations.{variable}
use Rattle.cad_world.specs.State.{bind}
use Rattle.cad_world.specs.Transfers.{transferred}
use Rattle.cad_standing.specs.CastPlaces.{cast_content}
use Rattle.cad_standing.proofs.Composing.{then_twice}
use Rattle.cad_standing.proofs.casting.cast_taken.Goals as goal

pub returns-in-Ok : goal.returns-in-Ok
returns-in-Ok c = λ w.
    let type = pure_type c.args.wanted.now in
    then_twice (option_map pure_tree) (take (variable c.args.x)) (transferred type) (cast_content type) (pure_tree c.in-Ok.tree)
    (state_over w c.args.state.now) (state_over w c.take_variable.new.self) (state_over w c.cast_handed.new.state) c.cast_handed.result (c.in-Ok.ensures w) (c.cast_handed.ensures w)

pub returns-in-Err : goal.returns-in-Err
returns-in-Err c = λ w.
    let type = pure_type c.args.wanted.now in
    let first = take (variable c.args.x) (state_over w c.args.state.now) in
    stops_on (bind first (transferred type)) (cast_content type) c.in-Err.stop (stops_on first (transferred type) c.in-Err.stop (c.in-Err.ensures w))
