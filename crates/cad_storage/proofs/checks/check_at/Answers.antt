use Rattle.cad_evaluation.specs.Numbers.{bool_tree}
use Rattle.cad_evaluation.specs.Storage.{is_stored_as}
use Rattle.cad_outcomes.proofs.Steps.{stops_on}
use Rattle.cad_state.specs.Views.{state_over}
use Rattle.cad_syntax.specs.Types.{pure_type}
use Rattle.cad_world.specs.Labels.{stored_slot}
use Rattle.cad_world.specs.State.{give}
use Rattle.cad_storage.proofs.checks.check_at.Goals as goal

pub returns-in-Err : goal.returns-in-Err
returns-in-Err c = λ w ready.
    let s = state_over w c.args.state.now in
    let slot = stored_slot s c.args.address.0 c.args.name.now in
    stops_on (is_stored_as (pure_type c.args.wanted.now) slot s) (λ x. give (bool_tree x)) c.in-Err.stop (c.in-Err.ensures w ready)
