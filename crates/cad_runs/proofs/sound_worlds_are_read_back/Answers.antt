use Rattle.cad_runs.proofs.Kept.{sound_reads_back}
use Rattle.cad_runs.proofs.sound_worlds_are_read_back.Goals as goal

pub returns : goal.returns
returns c = sound_reads_back
