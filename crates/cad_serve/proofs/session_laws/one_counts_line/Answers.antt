use Rattle.cad_serve.proofs.Sessions.{same_counts}
use Rattle.cad_serve.proofs.session_laws.one_counts_line.Goals as goal

pub returns : goal.returns
returns c = same_counts c.one_session.ensures
