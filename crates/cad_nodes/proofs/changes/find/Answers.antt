use Rattle.std.proofs.Common.{◌∙◌}
use Rattle.cad_nodes.proofs.Found.{finds}
use Rattle.cad_nodes.proofs.changes.find.Goals as goal

pub returns-in-Ok-true : goal.returns-in-Ok-true
returns-in-Ok-true c = finds c.args.label c.args.state.now c.locate.new.self c.locate.ensures.same (λ w ready. c.in-Ok-true.ensures.found w ready ∙ c.in-Ok-true.field-0-test)
