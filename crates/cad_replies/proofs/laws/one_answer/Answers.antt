use Rattle.cad_replies.proofs.ScriptUniqueness.{one_answer}
use Rattle.cad_replies.proofs.laws.one_answer.Goals as goal

pub returns : goal.returns
returns c = one_answer
