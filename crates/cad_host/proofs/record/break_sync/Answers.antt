use Rattle.cad_host.proofs.Kept.{nothing_breaks}
use Rattle.std.proofs.Common.{inr}
use Rattle.cad_host.proofs.record.break_sync.Goals as goal

pub returns-in-Ok-clause-breaks : goal.returns-in-Ok-clause-breaks
returns-in-Ok-clause-breaks c = nothing_breaks c.args.calls.now.items _ c.args.tape (inr c.in-Ok.ensures.ok)
