use Rattle.std.proofs.Common.{Bool, ap, sym, ◌∙◌}
use Rattle.cad_capabilities.proofs.Acts.{carries_same}
use Rattle.cad_capabilities.specs.Views.{capability_of}
use Rattle.cad_evaluation.specs.Capabilities.{is_own, publish_free}
use Rattle.cad_rows.specs.Views.{pure_tree}
use Rattle.cad_state.specs.Views.{state_over}
use Rattle.cad_world.specs.State.{require}
use Rattle.cad_capabilities.proofs.publishing.publish_own.Goals as goal

pub returns-then-is_own : goal.returns-then-is_own
returns-then-is_own c =
    let a = c.args.address in
    let x = capability_of c.args.cap.now in
    let free = publish_free a x c.args.name.now in
    carries_same pure_tree (require 117 (is_own a x) free) free c.args.state.now c.publish_free.new.state c.publish_free.result
    (λ w. ap (λ (is : Bool). require 117 is free (state_over w c.args.state.now)) (sym c.is_own.ensures ∙ c.if-is_own.true))
    c.publish_free.ensures
