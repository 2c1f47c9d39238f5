use Rattle.cad_runs.proofs.ReadBack.{read_back}
use Rattle.cad_runs.proofs.worlds_are_read_back.Goals as goal

pub returns : goal.returns
returns c = read_back
