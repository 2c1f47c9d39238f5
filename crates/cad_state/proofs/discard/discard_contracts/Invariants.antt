use Rattle.std.proofs.Common.{vec_len}
use Rattle.cad_state.proofs.discard.discard_contracts.Given as goal

abbrev pub decreases-loop-contract : goal.decreases-loop-contract
decreases-loop-contract l = vec_len l.left
