use Rattle.cad_syntax.proofs.Keywords.{keyword_is_spelled}
use Rattle.cad_syntax.proofs.laws.keywords_are_spelled.Goals as goal

pub returns : goal.returns
returns c = keyword_is_spelled
