use Rattle.std.proofs.Common.{arith}
use Rattle.cad_casts.proofs.Plain.{none_declared}
use Rattle.cad_casts.proofs.below.are_none.Goals as goal

pub returns-in-len1-up : goal.returns-in-len1-up
returns-in-len1-up c = none_declared c.args.ids.now (omega (arith, c.in-len1-up.len_at_least))
