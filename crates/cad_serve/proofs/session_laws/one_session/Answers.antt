use Rattle.cad_serve.proofs.Sessions.{same_session}
use Rattle.cad_serve.proofs.session_laws.one_session.Goals as goal

pub returns : goal.returns
returns c = same_session c.one_reply.ensures
