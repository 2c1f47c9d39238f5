use Rattle.std.specs.Prelude.{option_map}
use Rattle.cad_rows.specs.Views.{pure_tree}
use Rattle.cad_syntax.specs.Types.{pure_type}
use Rattle.cad_state.specs.Views.{state_over}
use Rattle.cad_outcomes.proofs.Steps.{then, stopped}
use Rattle.cad_world.specs.Transfers.{transferred}
use Rattle.cad_standing.specs.CastPlaces.{cast_content}
use Rattle.cad_standing.proofs.casting.cast_handed.Goals as goal

pub returns-in-Ok : goal.returns-in-Ok
returns-in-Ok c = λ w.
    let type = pure_type c.args.wanted.now in
    then (option_map pure_tree) (transferred type (pure_tree c.args.tree)) (cast_content type) (pure_tree c.in-Ok.handed)
    (state_over w c.args.state.now) (state_over w c.transfer.new.self) (state_over w c.cast_content.new.state) c.cast_content.result (c.in-Ok.ensures w) (c.cast_content.ensures w)

pub returns-in-Err : goal.returns-in-Err
returns-in-Err c = λ w.
    let type = pure_type c.args.wanted.now in
    stopped (option_map pure_tree) (transferred type (pure_tree c.args.tree)) (cast_content type)
    (state_over w c.args.state.now) (state_over w c.transfer.new.self) c.in-Err.stop (c.in-Err.ensures w)
