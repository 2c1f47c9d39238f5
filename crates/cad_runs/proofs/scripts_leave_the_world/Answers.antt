use Rattle.std.specs.Prelude.{ℕ}
use Rattle.cad_runs.proofs.Leaving.{scripts_leave}
use Rattle.cad_runs.proofs.scripts_leave_the_world.Goals as goal

pub returns : goal.returns
returns c = scripts_leave ℕ
