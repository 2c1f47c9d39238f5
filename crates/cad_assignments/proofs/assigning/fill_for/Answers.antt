use Rattle.std.proofs.Common.{refl, Ok}
use Rattle.cad_evaluation.specs.Changing.{fill}
use Rattle.cad_outcomes.specs.Outcomes.{no_value}
use Rattle.cad_outcomes.proofs.Steps.{then}
use Rattle.cad_rows.specs.Views.{pure_tree}
use Rattle.cad_state.specs.Views.{state_over}
use Rattle.cad_state.proofs.Finding.{find_stopped}
use Rattle.cad_world.specs.State.{give}
use Rattle.cad_locations.specs.Views.{location_of}
use Rattle.cad_assignments.proofs.assigning.fill_for.Goals as goal

pub returns-in-Ok : goal.returns-in-Ok
returns-in-Ok c = λ accounts ready.
    then pure_tree (fill (location_of c.args.location.now) (pure_tree c.args.tree)) (λ _. give (pure_tree c.args.old)) tt (state_over accounts c.args.state.now) (state_over accounts c.fill.new.state) (state_over accounts c.fill.new.state) (Ok c.args.old)
    (c.in-Ok.ensures accounts ready) refl

pub returns-in-Err : goal.returns-in-Err
returns-in-Err c =
    find_stopped no_value pure_tree (fill (location_of c.args.location.now) (pure_tree c.args.tree)) (λ _. give (pure_tree c.args.old)) c.args.state.now c.fill.new.state c.fill.new.state c.in-Err.stop c.in-Err.ensures
