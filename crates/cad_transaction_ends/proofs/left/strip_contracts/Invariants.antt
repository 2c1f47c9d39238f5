use Rattle.cad_state.specs.Views.{contract_of}
use Rattle.cad_transaction_ends.proofs.Kept.{KeptSo}
use Rattle.cad_world.specs.Begin.{kept_contract}
use Rattle.cad_transaction_ends.proofs.left.strip_contracts.Given as goal

abbrev pub invariant-loop-i : goal.invariant-loop-i
invariant-loop-i l = KeptSo contract_of kept_contract l.i l.contracts.items l.fn.contracts.items
