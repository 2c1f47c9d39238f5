use Rattle.cad_tape.proofs.Orders.{gate_too_early, pick_too_early}
use Rattle.cad_tape.proofs.laws.order_matters.Goals as goal

pub returns-clause-gate : goal.returns-clause-gate
returns-clause-gate c = gate_too_early

pub returns-clause-pick : goal.returns-clause-pick
returns-clause-pick c = pick_too_early
