use Rattle.std.proofs.Common.{List, refl, subst}
use Rattle.std.specs.Prelude.{Option}
use Rattle.cad_world.specs.Labels.{newest}
use Rattle.cad_world.specs.Rows.{slot}
use Rattle.cad_world.specs.State.{Frame, with_some}
use Rattle.cad_evaluation.specs.Arguments.{in_slot}
use Rattle.cad_evaluation.specs.Reading.{copied}
use Rattle.cad_evaluation.specs.Uses.{before_value, before_row}
use Rattle.cad_outcomes.specs.Outcomes.{Does, Gives}
use Rattle.cad_outcomes.proofs.Steps.{does_same, gives_here}
use Rattle.cad_rows.specs.Views.{pure_row, pure_tree}
use Rattle.cad_rows.specs.declared.tree.Place.{Place}
use Rattle.cad_state.specs.Views.{state_over, frame_of}
use Rattle.cad_making.proofs.before.before_value.Goals as goal

pub returns-in-Some : goal.returns-in-Some
returns-in-Some c = λ w.
    let s = state_over w c.args.state.now in
    does_same pure_tree (before_value c.args.n) (with_some (in_slot (slot c.args.n (before_row (newest s)))) copied) s s c.copy_at.result refl
    (subst (λ (o : Option Frame). Does pure_tree (with_some (in_slot (slot c.args.n (before_row o))) copied) s s c.copy_at.result) c.in-Some.ensures
    (gives_here pure_tree (with_some (in_slot (slot c.args.n (frame_of c.in-Some.call.now).before)) copied) c.copy_at.result s
    (subst (λ (xs : List Place). Gives pure_tree (with_some (in_slot (slot c.args.n (pure_row xs))) copied) c.copy_at.result) c.as_slice.ensures.value c.copy_at.ensures)))
