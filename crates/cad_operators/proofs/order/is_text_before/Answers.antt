use Rattle.std.proofs.Common.{◌∙◌}
use Rattle.cad_text.specs.Texts.{normal_form}
use Rattle.cad_operators.proofs.Orders.{is_before_by_order}
use Rattle.cad_operators.proofs.order.is_text_before.Goals as goal

pub returns-in-Ok : goal.returns-in-Ok
returns-in-Ok c = c.is_lt.ensures ∙ is_before_by_order (normal_form c.args.x.now) (normal_form c.args.y.now) c.in-Ok.order c.in-Ok.ensures
