use Rattle.cad_replies.proofs.ScriptExtending.{answers_extend}
use Rattle.cad_replies.proofs.laws.answers_extend.Goals as goal

pub returns : goal.returns
returns c = answers_extend c.scripts_extend.ensures
