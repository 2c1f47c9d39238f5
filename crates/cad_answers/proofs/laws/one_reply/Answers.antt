use Rattle.cad_answers.proofs.Uniques.{same_answer}
use Rattle.cad_answers.proofs.laws.one_reply.Goals as goal

pub returns : goal.returns
returns c = same_answer c.one_stop.ensures.text c.one_acceptance.ensures c.no_stop_of_accepted.ensures c.one_verdict.ensures c.one_world.ensures c.one_answer.ensures c.answers_extend.ensures
    c.one_outcome.ensures c.outcomes_extend.ensures c.one_deployment.ensures c.deployments_extend.ensures
