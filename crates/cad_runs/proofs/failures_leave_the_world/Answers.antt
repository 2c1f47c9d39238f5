use Rattle.std.specs.Prelude.{ℕ}
use Rattle.cad_runs.proofs.Leaving.{failures_leave}
use Rattle.cad_runs.proofs.failures_leave_the_world.Goals as goal

pub returns : goal.returns
returns c = failures_leave ℕ
