use Rattle.std.proofs.Common.{◌∙◌}
use Rattle.cad_store_tests.specs.declared.tape_tests.TheConstants.{BODY}
use Rattle.cad_store_tests.proofs.tape_tests.write_first.Goals as goal

pub checkpoint-requires-clause-form : goal.checkpoint-requires-clause-form
checkpoint-requires-clause-form g c = (BODY, c.as_slice.ensures ∙ c.in-Ok.ensures)
