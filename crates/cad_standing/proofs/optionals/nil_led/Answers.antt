use Rattle.std.proofs.Common.{sym, ◌∙◌}
use Rattle.std.specs.Prelude.{Bool}
use Rattle.cad_evaluation.specs.Changing.{content_of}
use Rattle.cad_evaluation.specs.Uses.{nil_of}
use Rattle.cad_rows.specs.Views.{pure_shape, pure_tree}
use Rattle.cad_standing.proofs.NilLaws.{value_led}
use Rattle.cad_standing.proofs.optionals.nil_led.Goals as goal

pub returns : goal.returns
returns c =
    value_led {D = Bool} (λ b. b) (pure_tree c.args.reference.now) (pure_shape c.shape.result.now) (λ t. nil_of (content_of t)) c.args.state.now c.nil_target.new.state c.nil_target.result
    (sym c.leads.ensures ∙ c.if-not-leads.false) c.shape.ensures c.nil_target.ensures
