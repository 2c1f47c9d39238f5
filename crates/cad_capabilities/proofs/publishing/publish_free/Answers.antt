use Rattle.std.proofs.Common.{Bool, ap, sym, ◌∙◌}
use Rattle.std.specs.Prelude.{not}
use Rattle.cad_capabilities.proofs.Acts.{carries_same}
use Rattle.cad_capabilities.specs.Code.{published_now}
use Rattle.cad_capabilities.specs.Views.{capability_of}
use Rattle.cad_evaluation.specs.Capabilities.{publish_free}
use Rattle.cad_rows.specs.Views.{pure_tree}
use Rattle.cad_state.specs.Views.{state_over}
use Rattle.cad_world.specs.State.{require}
use Rattle.cad_capabilities.proofs.publishing.publish_free.Goals as goal

pub returns-in-Ok-false : goal.returns-in-Ok-false
returns-in-Ok-false c =
    let a = c.args.address in
    let x = capability_of c.args.cap.now in
    let name = c.args.name.now in
    carries_same pure_tree (publish_free a x name) (published_now a x name) c.args.state.now c.publish_now.new.state c.publish_now.result
    (λ w. ap (λ (is : Bool). require 116 (not is) (published_now a x name) (state_over w c.args.state.now)) (sym (c.in-Ok-false.ensures w) ∙ c.in-Ok-false.field-0-test))
    c.publish_now.ensures
