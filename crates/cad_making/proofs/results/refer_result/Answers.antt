use Rattle.std.proofs.Common.{◌∙◌, ap, sym}
use Rattle.std.specs.Prelude.{Some, true}
use Rattle.cad_world.specs.Labels.{newest}
use Rattle.cad_world.specs.Rows.{slot}
use Rattle.cad_world.specs.State.{ok}
use Rattle.cad_evaluation.specs.Bodies.{result_row}
use Rattle.cad_outcomes.proofs.Steps.{does_same}
use Rattle.cad_rows.specs.Views.{pure_tree}
use Rattle.cad_state.specs.Views.{state_over}
use Rattle.cad_making.specs.Code.Results.{linked_in, result_of}
use Rattle.cad_making.proofs.Seen.{sees_content, sees_nil, sees_none}
use Rattle.cad_making.proofs.results.refer_result.Goals as goal

pub returns-in-Some-Content : goal.returns-in-Some-Content
returns-in-Some-Content c = λ w.
    let s = state_over w c.args.state.now in
    does_same pure_tree (result_of true) (linked_in c.in-Some-Content.optionals) s (state_over w c.link_result.new.state) c.link_result.result
    (sees_content (slot 0 (result_row (newest s))) c.in-Some-Content.optionals s (ap Some (sym c.in-Some-Content.field-0-is) ∙ c.in-Some-Content.ensures w)) (c.link_result.ensures w)

pub returns-in-Some-Nil : goal.returns-in-Some-Nil
returns-in-Some-Nil c = λ w.
    let s = state_over w c.args.state.now in
    sees_nil (slot 0 (result_row (newest s))) s (ap Some (sym c.in-Some-Nil.field-0-is) ∙ c.in-Some-Nil.ensures w) ∙ ap (λ t. ok t s) (sym c.nil_tree.ensures)

pub returns-in-None : goal.returns-in-None
returns-in-None c = λ w. sees_none (slot 0 (result_row (newest (state_over w c.args.state.now)))) (state_over w c.args.state.now) (c.in-None.ensures w)
