use Rattle.cad_lex.proofs.Turns.{one_stop_lem, stops_alone}
use Rattle.cad_lex.proofs.lexer.one_stop.Goals as goal

pub returns : goal.returns
returns c = record { one = one_stop_lem; none = λ text n tokens s l. stops_alone text n tokens s l }
