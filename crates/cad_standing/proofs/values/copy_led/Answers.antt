use Rattle.std.proofs.Common.{sym, ◌∙◌}
use Rattle.cad_evaluation.specs.Reading.{copied}
use Rattle.cad_rows.specs.Views.{pure_shape, pure_tree}
use Rattle.cad_standing.proofs.NilLaws.{value_led}
use Rattle.cad_standing.proofs.values.copy_led.Goals as goal

pub returns : goal.returns
returns c =
    value_led pure_tree (pure_tree c.args.reference.now) (pure_shape c.shape.result.now) copied c.args.state.now c.copy_target.new.state c.copy_target.result
    (sym c.leads.ensures ∙ c.if-not-leads.false) c.shape.ensures c.copy_target.ensures
