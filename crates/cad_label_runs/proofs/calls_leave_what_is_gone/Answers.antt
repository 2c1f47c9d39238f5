use Rattle.cad_label_runs.proofs.Given.{calls_leave}
use Rattle.cad_label_runs.proofs.calls_leave_what_is_gone.Goals as goal

pub returns : goal.returns
returns c = calls_leave
