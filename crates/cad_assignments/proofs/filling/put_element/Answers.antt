use Rattle.cad_evaluation.specs.Changing.{put_at}
use Rattle.cad_num.specs.Numbers.{value_of}
use Rattle.cad_outcomes.specs.Outcomes.{no_value}
use Rattle.cad_rows.specs.Views.{pure_tree}
use Rattle.cad_state.specs.Views.{state_over}
use Rattle.cad_state.proofs.Finding.{find_same}
use Rattle.cad_world.specs.Locations.{part, element}
use Rattle.cad_assignments.proofs.Emptied.{put_place}
use Rattle.cad_assignments.proofs.filling.put_element.Goals as goal

pub returns-in-Some : goal.returns-in-Some
returns-in-Some c =
    let x = element c.args.label (value_of c.args.n.now) in
    let t = pure_tree c.args.tree in
    find_same no_value (put_at x t) (put_at (part c.args.label c.in-Some.i) t) c.args.state.now c.put_in.new.state c.put_in.result
    (λ accounts ready. put_place x c.args.label c.in-Some.i t (state_over accounts c.args.state.now) (c.in-Some.ensures accounts ready)) c.put_in.ensures
