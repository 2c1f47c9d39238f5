use Rattle.cad_lex.proofs.Turns.{one_lexing_lem}
use Rattle.cad_lex.proofs.lexer.one_lexing.Goals as goal

pub returns : goal.returns
returns c = one_lexing_lem
