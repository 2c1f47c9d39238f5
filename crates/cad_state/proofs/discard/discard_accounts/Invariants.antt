use Rattle.std.proofs.Common.{vec_len}
use Rattle.cad_state.proofs.discard.discard_accounts.Given as goal

abbrev pub decreases-loop-account : goal.decreases-loop-account
decreases-loop-account l = vec_len l.left
