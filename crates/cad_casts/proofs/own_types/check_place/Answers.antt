use Rattle.cad_casts.proofs.Settles.{place_asked, nothing_asked}
use Rattle.cad_evaluation.specs.Containers.{all_of_type, of_type}
use Rattle.cad_outcomes.specs.Outcomes.{no_value}
use Rattle.cad_rows.specs.Views.{before, pure_place, pure_tree}
use Rattle.cad_state.proofs.Finding.{find_same}
use Rattle.cad_state.specs.Views.{state_over}
use Rattle.cad_syntax.specs.Types.{pure_type}
use Rattle.cad_world.specs.Rows.{stop}
use Rattle.cad_world.specs.State.{done}
use Rattle.cad_casts.proofs.own_types.check_place.Goals as goal

pub returns-in-Some : goal.returns-in-Some
returns-in-Some c =
    let wanted = pure_type c.args.wanted.now in
    let place = pure_place c.args.place.now in
    let t = pure_tree c.in-Some.tree.now in
    find_same no_value (all_of_type wanted (before place stop) done) (of_type wanted t done) c.args.state.now c.check_type.new.state c.check_type.result
    (λ w ready. place_asked wanted place t (state_over w c.args.state.now) c.in-Some.ensures) c.check_type.ensures

pub returns-in-None : goal.returns-in-None
returns-in-None c = λ w ready. nothing_asked (pure_type c.args.wanted.now) (pure_place c.args.place.now) (state_over w c.args.state.now) c.in-None.ensures
