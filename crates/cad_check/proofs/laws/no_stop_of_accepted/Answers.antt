use Rattle.cad_check.proofs.Texts.{accepted_text}
use Rattle.cad_check.proofs.laws.no_stop_of_accepted.Goals as goal

pub returns : goal.returns
returns c = accepted_text c.one_lexing.ensures c.one_stop.ensures.none c.one_program.ensures.parsed c.accepted_programs_have_no_stop.ensures
