use Rattle.cad_fronts.proofs.Joined.{one_verdict}
use Rattle.cad_fronts.proofs.laws.one_verdict.Goals as goal

pub returns : goal.returns
returns c = one_verdict c.one_loading.ensures c.one_acceptance.ensures c.no_stop_of_accepted.ensures c.joins_extend_the_first.ensures c.joins_extend_the_second.ensures
