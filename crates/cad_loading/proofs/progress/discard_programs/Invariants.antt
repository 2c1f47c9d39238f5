use Rattle.std.proofs.Common.{vec_len}
use Rattle.cad_loading.proofs.progress.discard_programs.Given as goal

abbrev pub decreases-loop-shared : goal.decreases-loop-shared
decreases-loop-shared l = vec_len l.left
