use Rattle.std.proofs.Common.{◌∙◌, refl, sym}
use Rattle.std.proofs.lemmas.Bool.{false≢true}
use Rattle.cad_world_reading.proofs.reading.kept.Goals as goal

pub returns-in-Ok-true-clause-found : goal.returns-in-Ok-true-clause-found
returns-in-Ok-true-clause-found c = (refl, c.in-Ok-true.ensures.0 c.in-Ok-true.field-0-test)

pub returns-in-Ok-false-clause-only : goal.returns-in-Ok-false-clause-only
returns-in-Ok-false-clause-only c st = absurd (false≢true (sym c.in-Ok-false.field-0-test ∙ c.in-Ok-false.ensures.1 st))

pub stand_for-requires : goal.stand_for-requires
stand_for-requires c = c.requires
