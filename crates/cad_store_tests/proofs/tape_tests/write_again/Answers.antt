use Rattle.std.proofs.Common.{◌-◌, List, ℕ, length, take, drop, ap, ◌∙◌}
use Rattle.cad_store_tests.specs.declared.tape_tests.TheConstants.{BODY}
use Rattle.cad_store_tests.proofs.tape_tests.write_again.Goals as goal

pub append-requires-clause-form : goal.append-requires-clause-form
append-requires-clause-form g c = (BODY, ap (λ (l : List ℕ). take (length l - 1) (drop 1 l)) (c.as_slice.ensures ∙ c.in-Ok.ensures))
