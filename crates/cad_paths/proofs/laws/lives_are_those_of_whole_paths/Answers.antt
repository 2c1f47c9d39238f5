use Rattle.cad_paths.proofs.WholePaths.{lives_are_on_paths}
use Rattle.cad_paths.proofs.laws.lives_are_those_of_whole_paths.Goals as goal

pub returns : goal.returns
returns c = lives_are_on_paths
