use Rattle.cad_types.proofs.Decision.{grants_answer}
use Rattle.cad_environment.proofs.access.is_served.Goals as goal

pub returns : goal.returns
returns c = grants_answer c.grants.result c.args.holder.now c.args.need.now c.grants.ensures
