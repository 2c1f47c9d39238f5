use Rattle.std.proofs.Common.{vec_len}
use Rattle.cad_fronts.proofs.codes.discard_verdicts.Given as goal

abbrev pub decreases-loop-verdict : goal.decreases-loop-verdict
decreases-loop-verdict l = vec_len l.left
