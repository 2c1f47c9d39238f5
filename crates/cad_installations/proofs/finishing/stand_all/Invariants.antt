use Rattle.cad_evaluation.specs.Adding.{stands_now}
use Rattle.cad_installations.proofs.Kept.{KeptSo}
use Rattle.cad_state.specs.Views.{contract_of}
use Rattle.cad_installations.proofs.finishing.stand_all.Given as goal

abbrev pub invariant-loop-i : goal.invariant-loop-i
invariant-loop-i l = KeptSo contract_of (stands_now l.id) l.i l.contracts.items l.fn.contracts.items
