use Rattle.std.proofs.Common.{ℕ}
use Rattle.cad_evaluation.specs.Casts.{link_tree}
use Rattle.cad_labels.proofs.Places.{naming_keeps}
use Rattle.cad_labels.specs.Laws.{AnyOne}
use Rattle.cad_locations.specs.Views.{location_of}
use Rattle.cad_rows.specs.Views.{pure_tree}
use Rattle.cad_state.proofs.Finding.{find_given, find_stopped, find_then}
use Rattle.cad_world.specs.Locations.{name}
use Rattle.cad_world.specs.State.{give}
use Rattle.cad_standing.proofs.references.refer.Goals as goal

pub returns-in-Ok : goal.returns-in-Ok
returns-in-Ok c =
    find_then {B = ℕ} AnyOne (name (location_of c.args.location.now)) (naming_keeps (location_of c.args.location.now)) (λ l. l) pure_tree
    (λ l. give (link_tree c.args.authorization.now l c.args.sees)) c.in-Ok.label c.args.state.now c.name.new.state c.name.new.state c.link_tree.result c.in-Ok.ensures
    (λ _. find_given pure_tree (give (link_tree c.args.authorization.now c.in-Ok.label c.args.sees)) c.name.new.state c.link_tree.result c.link_tree.ensures)

pub returns-in-Err : goal.returns-in-Err
returns-in-Err c =
    find_stopped {B = ℕ} (λ l. l) pure_tree (name (location_of c.args.location.now)) (λ l. give (link_tree c.args.authorization.now l c.args.sees))
    c.args.state.now c.name.new.state c.name.new.state c.in-Err.stop c.in-Err.ensures
