use Rattle.cad_locations.specs.Views.{location_of}
use Rattle.cad_outcomes.proofs.Steps.{stopped}
use Rattle.cad_rows.specs.Views.{pure_tree}
use Rattle.cad_state.specs.Views.{state_over}
use Rattle.cad_world.specs.Locations.{name}
use Rattle.cad_world.specs.Rows.{link, stop}
use Rattle.cad_world.specs.State.{give}
use Rattle.cad_selections.proofs.readings.link_to.Goals as goal

pub returns-in-Err : goal.returns-in-Err
returns-in-Err c = λ w ready. stopped pure_tree (name (location_of c.args.location)) (λ l. give (record { optionals = c.args.optionals; shape = link c.args.authorization l 0; parts = stop }))
    (state_over w c.args.state.now) (state_over w c.args.state.now) c.in-Err.stop (c.in-Err.ensures w ready)
