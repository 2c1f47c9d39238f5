use Rattle.cad_auth.proofs.Covers.{grants_tells}
use Rattle.cad_auth.proofs.grant.grants.Goals as goal

pub returns : goal.returns
returns c = grants_tells c.may_serve.result c.args.holder.now c.args.need.now c.may_serve.ensures
