use Rattle.cad_commands.proofs.Limits.{limits}
use Rattle.cad_commands.proofs.laws.limits_are_bounded.Goals as goal

pub returns : goal.returns
returns c = limits
