use Rattle.std.proofs.Common.{sym, ◌∙◌}
use Rattle.cadence_check.specs.Verdicts.{of_another_name, stands}
use Rattle.cadence_check.proofs.judge.of_its_name.Goals as goal

pub returns-then-is_contract : goal.returns-then-is_contract
returns-then-is_contract c = λ deployed h. stands h (sym c.is_contract.ensures ∙ c.if-is_contract.true)

pub returns-else-is_contract : goal.returns-else-is_contract
returns-else-is_contract c = λ deployed h. of_another_name h (sym c.is_contract.ensures ∙ c.if-is_contract.false)
