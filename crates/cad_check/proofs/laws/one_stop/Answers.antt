use Rattle.cad_check.proofs.Texts.{one_first_stop}
use Rattle.cad_check.proofs.Unique.{one_program_stop}
use Rattle.cad_check.proofs.laws.one_stop.Goals as goal

pub returns-clause-program : goal.returns-clause-program
returns-clause-program c = one_program_stop

pub returns-clause-text : goal.returns-clause-text
returns-clause-text c = one_first_stop c.one_lexing.ensures c.one_stop.ensures.none c.one_program.ensures.parsed c.one_refusal.ensures
