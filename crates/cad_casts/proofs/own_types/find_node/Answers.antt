use Rattle.std.proofs.Common.{◌∙◌}
use Rattle.cad_casts.proofs.Settles.{found_there, found_nowhere}
use Rattle.cad_casts.proofs.own_types.find_node.Goals as goal

pub returns-in-Ok-true : goal.returns-in-Ok-true
returns-in-Ok-true c = λ accounts ready. found_there _ _ _ (c.locate.ensures.same accounts) (c.in-Ok-true.ensures.found accounts ready ∙ c.in-Ok-true.field-0-test)

pub returns-in-Ok-false : goal.returns-in-Ok-false
returns-in-Ok-false c = λ accounts ready. found_nowhere _ _ (c.in-Ok-false.ensures.found accounts ready ∙ c.in-Ok-false.field-0-test)
