use Rattle.cad_types.proofs.Decision.{order_needs_no_steps_between}
use Rattle.cad_types.proofs.laws.order_needs_no_steps_between.Goals as goal

pub returns : goal.returns
returns c = order_needs_no_steps_between
