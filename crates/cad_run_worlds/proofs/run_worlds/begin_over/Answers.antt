use Rattle.std.proofs.Common.{refl}
use Rattle.cad_run_worlds.specs.Worlds.{run_world}
use Rattle.cad_run_worlds.proofs.run_worlds.begin_over.Goals as goal

pub returns : goal.returns
returns c = λ base. c.begin.ensures base (run_world base c.args.world) refl refl refl
