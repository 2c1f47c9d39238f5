use Rattle.std.proofs.Common.{sym, ◌∙◌}
use Rattle.cad_evaluation.specs.Standing.{field_of}
use Rattle.cad_rows.specs.Views.{pure_shape, pure_tree}
use Rattle.cad_standing.specs.Views.{standing_of}
use Rattle.cad_standing.proofs.NilLaws.{base_led}
use Rattle.cad_standing.proofs.fields.field_led.Goals as goal

pub returns : goal.returns
returns c =
    base_led standing_of (pure_tree c.args.reference.now) (pure_shape c.shape.result.now) (field_of c.args.writes c.args.field.now) c.args.state.now c.field_target.new.state c.field_target.result
    (sym c.leads.ensures ∙ c.if-not-leads.false) c.shape.ensures c.field_target.ensures
